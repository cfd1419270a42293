use mathlib.Core.Path.{◌≡◌, refl, sym, ap, ◌∙◌}
use mathlib.Core.Logic.{◌⊎◌, inl, inr}
use Prim.Native.Nat.{ℕ}
use Rattle.std.specs.Prelude.{Some, Ok}
use Rattle.cells.specs.declared.Probe.{Probe}
use Rattle.cells.specs.declared.Probe.TheVariants.{At, Free, Full}
use Rattle.linked_hash_map.specs.declared.map.LinkedHashMap.{LinkedHashMap}
use Rattle.linked_hash_map.specs.Numbers.{shrunk_map}
use Rattle.linked_hash_map.proofs.Places.{remove_none}
use Rattle.lazy_heap.proofs.Calling.{place_some}
use Rattle.lazy_heap.proofs.heap.take_key.Goals as goal

-- the count alone changes
fewer : (m n : LinkedHashMap) → n ≡ shrunk_map m → n ≡ record { capacity = m.capacity; len = n.len; refill_in = m.refill_in }
unfolding shrunk_map
fewer m n q = λ i. record { capacity = ap (λ (x : LinkedHashMap). x.capacity) q i; len = n.len; refill_in = ap (λ (x : LinkedHashMap). x.refill_in) q i }

not_held : {p : Probe} → ((x : ℕ) × (p ≡ Free x)) ⊎ (p ≡ Full) → (c s : ℕ) → p ≡ At c s → ⊥
not_held (inl f) c s q = let free = f.1 in cc
not_held (inr f) c s q = cc

pub unwrap-requires : goal.unwrap-requires
unwrap-requires c = place_some _ _ _ c.seek.ensures c.requires

pub returns-in-At : goal.returns-in-At
returns-in-At c =
    let at = sym c.seek.ensures ∙ c.unwrap.ensures ∙ ap Ok c.in-At.is in record {
      gone = Some c.take_at.ensures.gone;
      removing = c.take_at.ensures.remove _ at;
      numbers = fewer _ _ (c.take_at.ensures.numbers _ at);
      answer = ap Some c.take_at.ensures.first;
    }

pub returns-in-Free : goal.returns-in-Free
returns-in-Free c = record { gone = _; removing = remove_none _ (sym c.seek.ensures ∙ c.unwrap.ensures) (not_held c.in-Free.is); numbers = refl; answer = refl }
