-- What a call from outside promises: it is the book's call on the numbers and words that it is handed, with its
-- answer written.
use Rattle.std.specs.Prelude.{◌≡◌, List, ℕ, ◌^◌, ◌<◌, ◌≤◌, length, get_or}
use Rattle.time.specs.declared.tick.Tick.{Tick}
use Rattle.lazy_heap_model.specs.Model.{Heap}
use Rattle.expiring.specs.declared.answers.Reply.{Reply}
use Rattle.expiring.specs.declared.expiring.Expiring.{Expiring}
use Rattle.expiring_model.specs.Model.{Book, Call, book_after}
use Rattle.expiring_model.specs.Discards.{heap_by}
use Rattle.expiring.specs.Calls.{Following}
use Rattle.replay.specs.Runs.{with_answer}
use Rattle.expiring.specs.Numbers.{book_in}
use Rattle.replay_expiring.specs.Runs.{of_reply}

-- room for the numbers and an answer
pub record Room (ns out : List ℕ) : Type 0 where
  pub numbers : 12 ≤ length ns
  pub answer : 4 ≤ length out

abbrev pub tick_of : ℕ → Tick
tick_of t = record { 0 = t }

-- from the words ws, the book b and the answer out to the three after the call
pub data Told (t : ℕ) (c : Call) (ws : List ℕ) (b : Expiring) (out : List ℕ) : List ℕ → Expiring → List ℕ → Type 0 where
  told : {ws' : List ℕ} {r : Reply} → Following ws b (tick_of t) c ws' r → Told t c ws b out ws' r.book (with_answer out 0 (of_reply r))

-- a call that may change the book; without room, nothing
pub record Called (ns ws : List ℕ) (t : ℕ) (c : Call) (out ns' ws' out' : List ℕ) (k : ℕ) : Type 0 where
  pub few : (Room ns out → ⊥) → (k ≡ 0) × (ns' ≡ ns) × (ws' ≡ ws) × (out' ≡ out)
  pub ran : Room ns out → k ≡ 1
  pub reply : Room ns out → Told t c ws (book_in ns) out ws' (book_in ns') out'
  pub size : length ns' ≡ length ns
  pub past : (j : ℕ) → 12 ≤ j → get_or ns' j 0 ≡ get_or ns j 0

-- a call that leaves the model and the heap as they are
pub record IsLook (t : ℕ) (c : Call) : Type 0 where
  pub model : (p : Book) → p.expirations < 2 ^ 64 → book_after (tick_of t) c p ≡ p
  pub heap : (p : Book) (h : Heap) → heap_by (tick_of t) c p h ≡ h

-- a call that changes neither words nor numbers, since the model and the heap stay as they are
pub data Answered (t : ℕ) (c : Call) (ws : List ℕ) (b : Expiring) (out : List ℕ) : List ℕ → Type 0 where
  answered : {r : Reply} → Following ws b (tick_of t) c ws r → Answered t c ws b out (with_answer out 0 (of_reply r))

pub record Looked (ns ws : List ℕ) (t : ℕ) (c : Call) (out out' : List ℕ) (k : ℕ) : Type 0 where
  pub few : (Room ns out → ⊥) → (k ≡ 0) × (out' ≡ out)
  pub ran : Room ns out → k ≡ 1
  pub reply : Room ns out → Answered t c ws (book_in ns) out out'
  pub model : (p : Book) → p.expirations < 2 ^ 64 → book_after (tick_of t) c p ≡ p
  pub heap : (p : Book) (h : Heap) → heap_by (tick_of t) c p h ≡ h
