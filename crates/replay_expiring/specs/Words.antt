-- Calls, openings and answers in words.
use Rattle.std.specs.Prelude.{cond, Option, Some, None, Result, ⊤, List, ℕ, ◌+◌, ◌*◌, eqb, get_or}
use Rattle.time.specs.declared.duration.Duration.{Duration}
use Rattle.time.specs.Duration.{duration_of}
use Rattle.time.specs.declared.refusal.Refusal.{Refusal}
use Rattle.time.specs.Refusal.{number_of}
use Rattle.expiring_model.specs.declared.answers.Answer.{Answer}
use Rattle.expiring_model.specs.declared.answers.Answer.TheVariants as answer
use Rattle.expiring_model.specs.Model.{Call, insert, insert_with_ttl, get, remove, clear, set_ttl, purge_expired, next_deadline, touch, pop_lru, contains, peek, ttl_status, recency_rank, live_len, expirations, peek_lru}
use Rattle.replay_expiring.specs.declared.call.Asked.{Asked}
use Rattle.replay.specs.declared.answer.Answer as replay
use Rattle.replay.specs.Answers.{words, yes, no, nothing, number, pair, done, refused}
use Rattle.replay.specs.Told.{of_done, of_call}

-- ---- a call. It may be that there is no such operation.
-- the i-th call, counted from 0
abbrev pub asked_at : List ℕ → ℕ → Asked
asked_at cs i = record {
  operation = get_or cs (6 * i) 0;
  tick = record { 0 = get_or cs (6 * i + 1) 0 };
  key = get_or cs (6 * i + 2) 0;
  value = get_or cs (6 * i + 3) 0;
  ttl = duration_of (get_or cs (6 * i + 4) 0) (get_or cs (6 * i + 5) 0);
}

-- how many operations there are
abbrev pub operations : ℕ
operations = 17

-- how many of them, the first, may change the book; the others look
abbrev pub changing : ℕ
changing = 10

-- the call of each operation
unfoldable pub call_of : ℕ → ℕ → ℕ → Duration → Call
call_of o k v d =
    cond (eqb o 0)
    (insert k v)
    (cond (eqb o 1)
    (insert_with_ttl k v d)
    (cond (eqb o 2)
    (get k)
    (cond (eqb o 3)
    (remove k)
    (cond (eqb o 4)
    clear
    (cond (eqb o 5)
    (set_ttl k d)
    (cond (eqb o 6)
    purge_expired
    (cond (eqb o 7)
    next_deadline
    (cond (eqb o 8)
    (touch k)
    (cond (eqb o 9)
    pop_lru
    (cond (eqb o 10)
    (contains k)
    (cond (eqb o 11)
    (peek k)
    (cond (eqb o 12)
    (ttl_status k)
    (cond (eqb o 13) (recency_rank k) (cond (eqb o 14) live_len (cond (eqb o 15) expirations peek_lru)))))))))))))))

abbrev pub call_in : Asked → Call
call_in a = call_of a.operation a.key a.value a.ttl

-- ---- an opening: capacity, limit of deadlines, first sequence number, whether there is a default lifetime, its
-- seconds and its nanoseconds
abbrev pub default_of : ℕ → ℕ → ℕ → Option Duration
default_of given secs nanos = cond (eqb given 0) None (Some (duration_of secs nanos))

-- ---- answers, with how many entries were discarded. Which number or pair it is, the call tells.
abbrev pub of_answer : Answer → ℕ → replay.Answer
of_answer answer.Nothing d = nothing d
of_answer (answer.Value v) d = number v d
of_answer answer.Yes d = yes d
of_answer answer.No d = no d
of_answer answer.Missing d = words 12 0 0 d
of_answer answer.Immortal d = words 13 0 0 d
of_answer answer.Expired d = words 14 0 0 d
of_answer (answer.Live l t) d = words 15 l.0 t.0 d
of_answer (answer.Count n) d = number n d
of_answer (answer.Due k t) d = pair k t.0 d
of_answer (answer.Item k v) d = pair k v d
of_answer (answer.Rank n) d = number n d
of_answer answer.Done d = done d
of_answer (answer.Refused why) d = refused (number_of why) d

abbrev pub of_outcome : Result ⊤ Refusal → replay.Answer
of_outcome o = of_call of_done o
