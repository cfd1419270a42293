-- The tally of live entries by their keys' slots.
use mathlib.Core.Path.{◌≡◌, refl, sym, ap, ◌∙◌}
use mathlib.Core.Bool.{true, false, true≢false}
use mathlib.Core.List.{List, Memᴰ}
use Prim.Native.Nat.{ℕ, suc, ◌+◌, ◌<◌, ◌≤◌, min}
use native.Mathlib.Decide.{ℕ_discrete}
use native.Mathlib.Omega.{arith}
use lib.ListN.{length, get_or, set, length-set}
use lib.Seq.{get_or-set_same, get_or-set_other}
use Rattle.std.specs.Prelude.{Option, None, Some}
use Rattle.binary_heap.specs.declared.entries.Entry.{Entry}
use Rattle.binary_heap.specs.Order.{is as isEntry, count}
use Rattle.binary_heap.specs.Entries.{entry_at, entries_of}
use Rattle.binary_heap.specs.Heap as array
use Rattle.binary_heap.specs.Calls as entries
use Rattle.binary_heap.proofs.Limits.{room_fits}
use Rattle.binary_heap.proofs.Counts.{Is, same, other, which}
use Rattle.binary_heap.proofs.Places.{count_last}
use Rattle.binary_heap.proofs.Laws.{model_none, model_count, model_place, place_model}
use Rattle.rings.proofs.Counts.{by_lt}
use Rattle.linked_hash_map.specs.declared.map.LinkedHashMap.{LinkedHashMap}
use Rattle.linked_hash_map.specs.declared.map.Record.{Record}
use Rattle.linked_hash_map.specs.Map as map
use Rattle.linked_hash_map.proofs.Laws.{slot_key, slot_below, map_distinct}
use Rattle.lazy_heap.specs.Words.{part}
use Rattle.lazy_heap_model.specs.Model.{entry_of, live}
use Rattle.lazy_heap.specs.Walks.{LivingAt, one_more, seen, Tallied, Blank, Tallying}
use Rattle.lazy_heap.proofs.Helds.{lookup_mem, held_live, live_held}

pub seen_length : (t : List ℕ) (r : Option ℕ) → length (seen t r) ≡ length t
seen_length t (Some s) = length-set t s (one_more (get_or t s 0))
seen_length t None = refl

module _ {ws : List ℕ} {m : LinkedHashMap} (is : map.IsMap ws m) where
  -- a live entry is that of the record whose slot it has
  entry_there : (e : Entry) (r : Record) (s : ℕ) → Memᴰ r (map.model_of ws m) → live (map.model_of ws m) e ≡ true → map.slot_of ws m e.key ≡ Some s → map.slot_of ws m r.key ≡ Some s → entry_of r ≡ e
  entry_there e r s q l a b =
      let o = live_held (map.model_of ws m) e l in
      let k : o.0.key ≡ r.key = ap (λ (y : Entry). y.key) o.1.1 ∙ slot_key ws m e.key r.key s a b in
      let p : Some o.0 ≡ Some r = sym (lookup_mem (map.model_of ws m) (map_distinct is) o.0 o.1.0) ∙ rw k (lookup_mem (map.model_of ws m) (map_distinct is) r q) in
      let x : o.0 ≡ r = cc in
      ap entry_of (sym x) ∙ o.1.1

  module _ (e : Entry) (at : Option ℕ) (living : LivingAt ws m e at) (t : List ℕ) (enough : m.capacity ≤ length t) where
    -- the word of a record's slot counts one more where the entry is the record's
    seen_there : (r : Record) → Memᴰ r (map.model_of ws m) → (s c : ℕ) → map.slot_of ws m r.key ≡ Some s → get_or t s 0 ≡ min c 2 → get_or (seen t at) s 0 ≡ min (c + isEntry (entry_of r) e) 2
    seen_there r q s c b n = go at refl (which (entry_of r) e)
      where
        stale : live (map.model_of ws m) e ≡ false → entry_of r ≡ e → ⊥
        stale l p = true≢false (sym (held_live (map.model_of ws m) (map_distinct is) r q) ∙ ap (live (map.model_of ws m)) p ∙ l)

        at_slot : (x : ℕ) → at ≡ Some x → Dec (s ≡ x) → Is (entry_of r) e → get_or (set t x (one_more (get_or t x 0))) s 0 ≡ min (c + isEntry (entry_of r) e) 2
        at_slot x u (yes z) (same p one) = rw (sym z, one) (get_or-set_same t s (one_more (get_or t s 0)) 0 (omega (arith, slot_below is r.key s b)) ∙ omega (arith, n))
        at_slot x u (yes z) (other p none) = absurd (let f = living.found is x u in p (entry_there e r s q f.0 (f.1 ∙ ap Some (sym z)) b))
        at_slot x u (no z) (same p one) = absurd (z (let f : Some s ≡ Some x = sym b ∙ ap (λ (y : Entry). map.slot_of ws m y.key) p ∙ (living.found is x u).1 in cc))
        at_slot x u (no z) (other p none) = rw none (get_or-set_other t x s (one_more (get_or t x 0)) 0 z ∙ n ∙ omega arith)

        go : (x : Option ℕ) → at ≡ x → Is (entry_of r) e → get_or (seen t x) s 0 ≡ min (c + isEntry (entry_of r) e) 2
        go (Some x) u w = at_slot x u (ℕ_discrete s x) w
        go None u (same p one) = absurd (stale (living.stale is u) p)
        go None u (other p none) = rw none (n ∙ omega arith)

pub entry_read : {es : List ℕ} {n i : ℕ} {e : Entry} → i < n → entries.Reading es n i e → array.IsHeap es n → e ≡ entry_at es i
entry_read {es} {n} b r h = r.answer (room_fits h.room) b

-- the first i entries are looked at
pub record Tally (ws : List ℕ) (m : LinkedHashMap) (n next : ℕ) (t₀ : List ℕ) (i : ℕ) (t : List ℕ) : Type 0 where
  pub within : i ≤ n
  pub size : length t ≡ length t₀
  pub below : array.IsHeap (part m.capacity ws) n → (j : ℕ) → j < i → (entry_at (part m.capacity ws) j).seq < next
  pub tallied : array.IsHeap (part m.capacity ws) n → map.IsMap ws m → Blank m t₀ → Tallied ws m (entries_of (part m.capacity ws) i) t

pub tally_start : (ws : List ℕ) (m : LinkedHashMap) (n next : ℕ) (t : List ℕ) → Tally ws m n next t 0 t
unfolding count
tally_start ws m n next t = record {
  within = omega arith;
  size = refl;
  below = λ h j b. absurd (omega arith);
  tallied = λ h is z r q s b. omega (arith, z.zero s, none (entry_of r));
}
  where
    none : (e : Entry) → count e (entries_of (part m.capacity ws) 0) ≡ 0
    none e = sym (model_count (part m.capacity ws) 0 e) ∙ ap (count e) (model_none (part m.capacity ws))

module _ {ws : List ℕ} {m : LinkedHashMap} {n next : ℕ} {t₀ : List ℕ} {i : ℕ} {t : List ℕ} (y : Tally ws m n next t₀ i t) (more : i < n) (e : Entry) (read : array.IsHeap (part m.capacity ws) n → e ≡ entry_at (part m.capacity ws) i) where
  -- a number that is not below the next
  pub tally_stop : next ≤ e.seq → Tallying ws m n next t₀ t false
  tally_stop b = record {
    size = y.size;
    below = λ h q. absurd (true≢false (sym q));
    complete = λ h a. absurd (omega (arith, a (entry_at (part m.capacity ws) i) (place_model (part m.capacity ws) n i more), ap (λ (x : Entry). x.seq) (read h)));
    tallied = λ h is z q. absurd (true≢false (sym q));
  }

  pub tally_on : e.seq < next → (at : Option ℕ) → LivingAt ws m e at → Tally ws m n next t₀ (i + 1) (seen t at)
  tally_on b at living = record {
    within = omega arith;
    size = seen_length t at ∙ y.size;
    below = λ h j c. by_lt j i (y.below h j) (λ a. let z : j ≡ i = omega arith in rw z (rw (read h) at b));
    tallied = λ h is z r q s p.
        let c = count_last (entry_of r) (part m.capacity ws) i in
        let suc_is : i + 1 ≡ suc i = omega arith in
        seen_there is e at living t (omega (arith, y.size, z.enough)) r q s (count (entry_of r) (entries_of (part m.capacity ws) i)) p (y.tallied h is z r q s p)
        ∙ ap (λ (k : ℕ). min k 2) (ap (λ (x : Entry). count (entry_of r) (entries_of (part m.capacity ws) i) + isEntry (entry_of r) x) (read h) ∙ sym c ∙ ap (λ (k : ℕ). count (entry_of r) (entries_of (part m.capacity ws) k)) (sym suc_is));
  }

pub tally_end : {ws : List ℕ} {m : LinkedHashMap} {n next : ℕ} {t₀ : List ℕ} {i : ℕ} {t : List ℕ} → Tally ws m n next t₀ i t → n ≤ i → Tallying ws m n next t₀ t true
tally_end {ws} {m} {n} {next} {t₀} {i} {t} y past = record {
  size = y.size;
  below = λ h q e u. let o = model_place (part m.capacity ws) n e u in rw o.2 at (y.below h o.0 (omega (arith, o.1)));
  complete = λ h a. refl;
  tallied = λ h is z q r u s b.
      let all : i ≡ n = omega (arith, y.within) in
      y.tallied h is z r u s b
      ∙ ap (λ (k : ℕ). min k 2) (ap (λ (k : ℕ). count (entry_of r) (entries_of (part m.capacity ws) k)) all ∙ sym (model_count (part m.capacity ws) n (entry_of r)));
}
