-- Maps laid out in words, with the slots of their live and free records in hand: what each change of the words makes of
-- the two lists. Links, records and cells lie apart, so that each change touches one part of what a map is.
use mathlib.Core.Path.{◌≡◌, sym, ap, ◌∙◌}
use mathlib.Core.Logic.{inl, ⊎_elim}
use mathlib.Core.List.{List, ◌∷◌, Memᴰ}
use mathlib.Core.List.Memᴰ
use mathlib.Core.List.Memᴰ.{cases_cons}
use mathlib.Core.List.Memᴰ.{head}
use mathlib.Core.List.Memᴰ.{tail}
use Prim.Native.Nat.{ℕ, ◌+◌, ◌-◌, ◌*◌, ◌/◌, ◌%◌, ◌<◌, ◌≤◌}
use native.Mathlib.Omega.{arith}
use lib.ListN.{length}
use Rattle.rings.specs.Ring.{moved, without, Two}
use Rattle.rings.proofs.Counts.{by_eq, mem_without}
use Rattle.rings.proofs.Links.{length_moved, get_d_moved, past_moved}
use Rattle.rings.proofs.Two.{two_swap, one_is_below, other_is_below, mem_not_both, along_ring, two_frame, move_front, move_across}
use Rattle.cells.specs.declared.Probe.TheVariants as probed
use Rattle.cells.specs.Cells.{key_at, cell_count, cell_word, weight, cell_at, set_cell, erased}
use Rattle.cells.specs.Probe.{probe, entered}
use Rattle.cells.specs.Index.{Indexed, IndexOf}
use Rattle.cells.proofs.Indexing.{found_live, relabel, frame_words, entered_index, entered_is, entered_length, entered_outside, erased_index, erased_length, erased_outside}
use Rattle.cells.proofs.Same.{probe_same}
use Rattle.cells.proofs.Probing.{at_found}
use Rattle.linked_hash_map.specs.declared.map.LinkedHashMap.{LinkedHashMap}
use Rattle.linked_hash_map.specs.declared.map.Record.{Record}
use Rattle.linked_hash_map.specs.Words.{Room, written, taken_out, put_in}
use Rattle.linked_hash_map.specs.Map.{IsMap, live_of, free_of}
use Rattle.linked_hash_map.proofs.Frames.{length_written, written_other, written_next, written_prev, record_written, record_written_other}

-- l words hold n records, of which those at the slots of l are live, in that order, and those of f free
pub record Laid (ws : List ℕ) (n : ℕ) (l f : List ℕ) : Type 0 where
  pub room : Room (length ws) n
  pub rings : Two (n + 2) ws n l (n + 1) f
  pub index : IndexOf ws n l

pub of_map : {ws : List ℕ} {m : LinkedHashMap} → IsMap ws m → Laid ws m.capacity (live_of ws m) (free_of ws m)
of_map is = record { room = is.room; rings = is.rings; index = is.index }

module _ {ws : List ℕ} {l f : List ℕ} (m : LinkedHashMap) (laid : Laid ws m.capacity l f) (count : m.len ≡ length l) where
  pub live_is : live_of ws m ≡ l
  unfolding live_of
  live_is = rw count (along_ring laid.rings)

  free_is : free_of ws m ≡ f
  unfolding free_of
  free_is =
      let e : m.capacity - m.len ≡ length f = omega (arith, laid.rings.size) in
      rw e (along_ring (two_swap laid.rings))

  pub to_map : 1 ≤ m.refill_in → IsMap ws m
  to_map opened = record {
    room = laid.room;
    count = omega (arith, laid.rings.size);
    rings = rw (live_is, free_is) laid.rings;
    index = rw live_is laid.index;
    opened = opened;
  }

-- ---- a record moves to the front
module _ {ws : List ℕ} {n : ℕ} {l f : List ℕ} (laid : Laid ws n l f) where
  pub live_below : {s : ℕ} → Memᴰ s l → s < n
  live_below = one_is_below laid.rings

  -- links alone do not matter to the cells
  moved_index : {L : ℕ → Type 0} (s x : ℕ) → Indexed ws n L → Indexed (moved (n + 2) ws s x) n L
  moved_index s x =
      frame_words
      (λ j h g. past_moved (n + 2) ws s x j (omega arith))
      (λ y q. get_d_moved (n + 2) ws s x (5 * y) (omega arith) (omega arith))

  moved_room : (s x : ℕ) → Room (length (moved (n + 2) ws s x)) n
  moved_room s x = rw (length_moved (n + 2) ws s x) laid.room

  pub laid_front : {s : ℕ} → Memᴰ s l → Laid (moved (n + 2) ws n s) n (s ∷ without s l) f
  laid_front {s} q = record {
    room = moved_room n s;
    rings = move_front laid.rings q;
    index =
        relabel
        (λ x p. by_eq x s (λ e. head e) (λ d. tail ((mem_without s x l).1 (p, d))))
        (λ x p. ⊎_elim (λ e. Memᴰ.cast e q) (λ t. ((mem_without s x l).0 t).0) (cases_cons p))
        (moved_index n s laid.index);
  }

  -- ---- a record is taken out
  pub laid_taken : (c s : ℕ) → probe ws n (key_at ws s) ≡ probed.At c s → Laid (taken_out ws n c s) n (without s l) (s ∷ f)
  unfolding taken_out
  laid_taken c s e = record {
    room = rw (length_moved (n + 2) (erased ws n c) (n + 1) s) (rw (erased_length ws n c) laid.room);
    rings = move_across links live;
    index =
        relabel
        (λ x p. (mem_without s x l).1 p)
        (λ x p. (mem_without s x l).0 p)
        (frame_words
        (λ j h g. past_moved (n + 2) (erased ws n c) (n + 1) s j (omega arith))
        (λ y q. get_d_moved (n + 2) (erased ws n c) (n + 1) s (5 * y) (omega arith) (omega arith))
        (erased_index laid.index laid.room.words laid.room.limit c s e));
  }
    where
      c_in : c < cell_count n
      c_in = (at_found ws n (key_at ws s) c s e).cell

      links : Two (n + 2) (erased ws n c) n l (n + 1) f
      links =
          two_frame laid.rings (erased ws n c)
          (λ i h. erased_outside ws n c c_in (5 * i + 3) (inl (omega arith)))
          (λ i h. erased_outside ws n c c_in (5 * i + 4) (inl (omega arith)))
          (rw (erased_length ws n c) laid.rings.fit)

      live : Memᴰ s l
      live = (found_live laid.index (key_at ws s) c s e).0

  -- ---- a record is written, over one that is free or has its key
  pub laid_written : (s : ℕ) (r : Record) → s < n → (Memᴰ s l → key_at ws s ≡ r.key) → Laid (written ws s r) n l f
  laid_written s r h same = record {
    room = rw (length_written ws s r) laid.room;
    rings =
        two_frame laid.rings (written ws s r)
        (λ i q. written_prev ws s r i)
        (λ i q. written_next ws s r i)
        (rw (length_written ws s r) laid.rings.fit);
    index =
        frame_words
        (λ j a b. written_other ws s r j (omega arith) (omega arith) (omega arith))
        (λ x q. by_eq x s
        (λ e. ap (key_at (written ws s r)) e ∙ ap (λ (y : Record). y.key) (record_written ws s r (omega (arith, laid.room.words))) ∙ sym (same (Memᴰ.cast (sym e) q)) ∙ ap (key_at ws) (sym e))
        (λ d. ap (λ (y : Record). y.key) (record_written_other ws s r x d)))
        laid.index;
  }

  -- ---- a free record is written, entered at the cell that its key's probe offers, and put at the front
  pub laid_put : (c s : ℕ) (r : Record) → Memᴰ s f → ((x : ℕ) → Memᴰ x l → key_at ws x ≡ r.key → ⊥) → probe ws n r.key ≡ probed.Free c → Laid (put_in ws n c s r) n (s ∷ l) (without s f)
  unfolding put_in cell_at
  laid_put c s r q new e = record {
    room = rw (length_moved (n + 2) (set_cell W n c (s + 1)) n s) (rw (sym is_entered) (rw (entered_length W n s) L.room));
    rings = rw (sym is_entered) (two_swap (move_across (two_swap links) q));
    index =
        rw (sym is_entered)
        (frame_words
        (λ j h g. past_moved (n + 2) (entered W n s) n s j (omega arith))
        (λ y p. get_d_moved (n + 2) (entered W n s) n s (5 * y) (omega arith) (omega arith))
        (entered_index L.index L.room.words L.room.limit s below
        (λ x p d. new x p (sym (other_key x p) ∙ d ∙ key))));
  }
    where
      W : List ℕ
      W = written ws s r

      below : s < n
      below = other_is_below laid.rings q

      not_live : Memᴰ s l → ⊥
      not_live p = mem_not_both laid.rings p q

      L : Laid W n l f
      L = laid_written s r below (λ p. absurd (not_live p))

      key : key_at W s ≡ r.key
      key = ap (λ (y : Record). y.key) (record_written ws s r (omega (arith, laid.room.words, below)))

      other_key : (x : ℕ) → Memᴰ x l → key_at W x ≡ key_at ws x
      other_key x p = ap (λ (y : Record). y.key) (record_written_other ws s r x (λ d. not_live (Memᴰ.cast (sym d) p)))

      same : probe W n r.key ≡ probe ws n r.key
      same =
          probe_same ws W n r.key
          (λ j h. ap (λ (w : ℕ). w / weight j % 65536) (written_other ws s r (cell_word n j) (omega (arith, below)) (omega (arith, below)) (omega (arith, below))))
          (λ j x h b d. other_key x (laid.index.owned j x h b d))

      is_entered : entered W n s ≡ set_cell W n c (s + 1)
      is_entered = entered_is W n s c (ap (probe W n) key ∙ same ∙ e)

      links : Two (n + 2) (entered W n s) n l (n + 1) f
      links =
          two_frame L.rings (entered W n s)
          (λ i h. entered_outside W n s (5 * i + 3) (inl (omega arith)))
          (λ i h. entered_outside W n s (5 * i + 4) (inl (omega arith)))
          (rw (entered_length W n s) L.rings.fit)

  -- ---- a live record's cell is emptied, and another record is written over it and put at the front
  pub laid_recycled : (c d s : ℕ) (r : Record) → probe ws n (key_at ws s) ≡ probed.At c s → ((x : ℕ) → Memᴰ x (without s l) → key_at ws x ≡ r.key → ⊥) → probe (erased ws n c) n r.key ≡ probed.Free d → Laid (put_in (erased ws n c) n d s r) n (s ∷ without s l) f
  unfolding put_in cell_at
  laid_recycled c d s r e new q = record {
    room = rw (length_moved (n + 2) (set_cell W n d (s + 1)) n s) (rw (sym is_entered) (rw (entered_length W n s) room));
    rings = rw (sym is_entered) (move_front links live);
    index =
        rw (sym is_entered)
        (frame_words
        (λ j h g. past_moved (n + 2) (entered W n s) n s j (omega arith))
        (λ y p. get_d_moved (n + 2) (entered W n s) n s (5 * y) (omega arith) (omega arith))
        (entered_index W-index room.words room.limit s below
        (λ x p g. new x p (sym (E-key x p) ∙ sym (other_key x p) ∙ g ∙ key))));
  }
    where
      E : List ℕ
      E = erased ws n c

      W : List ℕ
      W = written E s r

      c_in : c < cell_count n
      c_in = (at_found ws n (key_at ws s) c s e).cell

      live : Memᴰ s l
      live = (found_live laid.index (key_at ws s) c s e).0

      below : s < n
      below = live_below live

      room : Room (length W) n
      room = rw (length_written E s r) (rw (erased_length ws n c) laid.room)

      other : (x : ℕ) → Memᴰ x (without s l) → x ≡ s → ⊥
      other x p = ((mem_without s x l).0 p).1

      E-key : (x : ℕ) → Memᴰ x (without s l) → key_at E x ≡ key_at ws x
      E-key x p = erased_outside ws n c c_in (5 * x) (inl (omega (arith, live_below ((mem_without s x l).0 p).0)))

      E-index : IndexOf E n (without s l)
      E-index =
          relabel
          (λ x p. (mem_without s x l).1 p)
          (λ x p. (mem_without s x l).0 p)
          (erased_index laid.index laid.room.words laid.room.limit c s e)

      other_key : (x : ℕ) → Memᴰ x (without s l) → key_at W x ≡ key_at E x
      other_key x p = ap (λ (y : Record). y.key) (record_written_other E s r x (other x p))

      W-index : IndexOf W n (without s l)
      W-index = frame_words (λ j a b. written_other E s r j (omega (arith, below)) (omega (arith, below)) (omega (arith, below))) other_key E-index

      key : key_at W s ≡ r.key
      key = ap (λ (y : Record). y.key) (record_written E s r (omega (arith, laid.room.words, erased_length ws n c, below)))

      same : probe W n r.key ≡ probe E n r.key
      same =
          probe_same E W n r.key
          (λ j h. ap (λ (w : ℕ). w / weight j % 65536) (written_other E s r (cell_word n j) (omega (arith, below)) (omega (arith, below)) (omega (arith, below))))
          (λ j x h b g. other_key x (E-index.owned j x h b g))

      is_entered : entered W n s ≡ set_cell W n d (s + 1)
      is_entered = entered_is W n s d (ap (probe W n) key ∙ same ∙ q)

      links : Two (n + 2) (entered W n s) n l (n + 1) f
      links =
          two_frame laid.rings (entered W n s)
          (λ i h. entered_outside W n s (5 * i + 3) (inl (omega arith)) ∙ written_prev E s r i ∙ erased_outside ws n c c_in (5 * i + 3) (inl (omega arith)))
          (λ i h. entered_outside W n s (5 * i + 4) (inl (omega arith)) ∙ written_next E s r i ∙ erased_outside ws n c c_in (5 * i + 4) (inl (omega arith)))
          (rw (entered_length W n s) (rw (length_written E s r) (rw (erased_length ws n c) laid.rings.fit)))
