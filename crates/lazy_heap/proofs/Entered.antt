-- The entries' part changed and put back: the scores are as they were.
use mathlib.Core.Path.{◌≡◌, refl, ap, ◌∙◌}
use mathlib.Core.List.{List}
use Prim.Native.Nat.{ℕ, ◌+◌, ◌-◌, ◌*◌, ◌<◌, ◌≤◌}
use native.Mathlib.Omega.{arith}
use mathlib.Core.Bool.{Bool, true}
use lib.ListN.{length, get_or}
use borrow.Author.Tests.{le-leb}
use borrow.Rule.Slice.PartMut.{put_mid}
use Rattle.std.specs.Prelude.{Option}
use Rattle.binary_heap.specs.declared.entries.Entry.{Entry}
use Rattle.binary_heap.specs.Heap as array
use Rattle.binary_heap.specs.Calls as call
use Rattle.linked_hash_map.specs.declared.map.LinkedHashMap.{LinkedHashMap}
use Rattle.linked_hash_map.specs.Map as map
use Rattle.linked_hash_map.proofs.Laws.{map_frame, model_frame, place_frame}
use Rattle.lazy_heap.specs.declared.heap.LazyMinHeap.{LazyMinHeap}
use Rattle.lazy_heap.specs.Words.{words_for, start, part, Room, Kept}
use Rattle.lazy_heap.specs.Heap.{held_of, entries_of, Parts}
use Rattle.lazy_heap.specs.Steps.{Entered, Pushing, Popping}
use Rattle.lazy_heap.proofs.Parts.{part_length, back_part, back_length, back_before, back_after}

-- the words with ys in the entries' part
abbrev pub with_part : ℕ → List ℕ → List ℕ → List ℕ
with_part n ws ys = put_mid (start n) (words_for n - start n) ws ys

pub part_size : (n : ℕ) (ws : List ℕ) → Room (length ws) n → length (part n ws) ≡ words_for n - start n
part_size n ws room = part_length ws (start n) (words_for n) (omega arith) room.words

module _ (ws : List ℕ) (h : LazyMinHeap) (room : Room (length ws) h.scores.capacity) (ys : List ℕ) (size : length ys ≡ length (part h.scores.capacity ws)) where
  abbrev n : ℕ
  n = h.scores.capacity

  abbrev W : List ℕ
  W = with_part n ws ys

  fits : start n ≤ words_for n
  fits = omega arith

  l : length ys ≡ words_for n - start n
  l = size ∙ part_size n ws room

  pub kept_part : Kept n ws W
  kept_part = record {
    size = back_length ws (start n) (words_for n) fits room.words ys l;
    past = λ j b. back_after ws (start n) (words_for n) fits room.words ys l j b;
  }

  before : (j : ℕ) → j < start n → get_or W j 0 ≡ get_or ws j 0
  before j b = back_before ws (start n) (words_for n) fits room.words ys l j b

  enough : start n ≤ length W
  enough = omega (arith, kept_part.size, room.words)

  module _ (r : LazyMinHeap) (same : r.scores ≡ h.scores) where
    pub held_part : Parts ws h → held_of W r ≡ held_of ws h
    held_part p = ap (map.model_of W) same ∙ model_frame p.scores W enough before

    pub entries_part : entries_of W r ≡ array.model_of ys r.entries
    entries_part = ap (λ (m : LinkedHashMap). array.model_of (part m.capacity W) r.entries) same ∙ ap (λ (zs : List ℕ). array.model_of zs r.entries) (back_part ws (start n) (words_for n) fits room.words ys l)

    pub parts_part : Parts ws h → array.IsHeap ys r.entries → Parts W r
    parts_part p a = record {
      room = rw (same, kept_part.size) room;
      scores = rw same (map_frame p.scores W enough before);
      entries = rw (same, back_part ws (start n) (words_for n) fits room.words ys l) a;
    }

    pub entered_part : r.seq ≡ h.seq → r.factor ≡ h.factor → Entered ws h W r
    entered_part e f = record {
      scores = same;
      seq = e;
      factor = f;
      held = held_part;
      places = λ p i. place_frame p.scores W enough before i;
      kept = kept_part;
    }

-- ---- `push`, `pop` and `top` on the part
fit_of_room : {l n : ℕ} → array.Room l n → array.fit n l ≡ true
unfolding array.fit
fit_of_room {l} {n} r = rw (le-leb n 32769 r.limit, le-leb (3 * n) l r.words)

room_next : (n e : ℕ) → n ≤ 4096 → e ≤ 8 * n → array.fit (e + 1) (words_for n - start n) ≡ true
unfolding array.fit
room_next n e h g = rw (le-leb (e + 1) 32769 (omega arith), le-leb (3 * (e + 1)) (words_for n - start n) (omega arith))

-- the numbers with n entries
abbrev with_entries : LazyMinHeap → ℕ → LazyMinHeap
with_entries h n = record { scores = h.scores; entries = n; seq = h.seq; factor = h.factor }

module _ {ws : List ℕ} {h : LazyMinHeap} (room : Room (length ws) h.scores.capacity) {ys : List ℕ} {n : ℕ} where
  pub pushing : {e : Entry} {r : Bool} → call.Pushing (part h.scores.capacity ws) h.entries e ys n r → Pushing ws h e (with_part h.scores.capacity ws ys) (with_entries h n)
  pushing c = record {
    entered = entered_part ws h room ys size (with_entries h n) refl refl refl;
    count = λ q g. (c.done (fits g)).1;
    parts = λ q g. parts_part ws h room ys size (with_entries h n) refl q (rw (c.done (fits g)).1 (c.heap (fits g) q.entries));
    entries = λ q g. entries_part ws h room ys size (with_entries h n) refl ∙ ap (array.model_of ys) (c.done (fits g)).1 ∙ c.model (fits g);
  }
    where
      size : length ys ≡ length (part h.scores.capacity ws)
      size = c.kept.size

      fits : h.entries ≤ 8 * h.scores.capacity → array.fit (h.entries + 1) (length (part h.scores.capacity ws)) ≡ true
      fits g = ap (array.fit (h.entries + 1)) (part_size h.scores.capacity ws room) ∙ room_next h.scores.capacity h.entries room.limit g

  pub popping : {r : Option Entry} → call.Popping (part h.scores.capacity ws) h.entries ys n r → Popping ws h (with_part h.scores.capacity ws ys) (with_entries h n)
  popping c = record {
    entered = entered_part ws h room ys c.kept.size (with_entries h n) refl refl refl;
    shorter = c.shorter;
    count = λ q. c.shorter (fit_of_room q.entries.room);
    parts = λ q. parts_part ws h room ys c.kept.size (with_entries h n) refl q (c.heap q.entries);
    entries = λ q. entries_part ws h room ys c.kept.size (with_entries h n) refl ∙ c.model q.entries;
  }
