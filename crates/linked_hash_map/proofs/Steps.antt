-- The definitions by recursion as the loops run through them: a turn takes one from what is left.
use mathlib.Core.Path.{◌≡◌, refl, sym, ap, ◌∙◌}
use mathlib.Core.Bool.{Bool, true, false, cond}
use mathlib.Core.List.{List, [], ◌∷◌, ◌++◌}
use Prim.Native.Nat.{ℕ, zero, suc, ◌+◌, ◌-◌, ◌*◌, ◌^◌, ◌<◌, ◌≤◌, min}
use native.Mathlib.Omega.{arith}
use lib.Dec.{lit<}
use lib.ListN.{length, set, take, drop, replicate, length-set}
use borrow.Rule.Slice.PartMut.{put_mid}
use Rattle.std.proofs.lemmas.List.{append_assoc, take-append-drop, drop-drop, take_more_set, drop-set-lt, length-take-le, length-drop}
use borrow.Author.Tests.{lt-ltb, le-ltb}
use Rattle.std.specs.Prelude.{Some, None}
use Rattle.std.specs.Bool.{then_some}
use Rattle.rings.specs.Ring.{next, attached}
use Rattle.rings.proofs.Counts.{by_lt}
use Rattle.cells.specs.Cells.{weight, zeroed}
use Rattle.cells.proofs.Packing.{digit_le, put_lt}
use Rattle.cells.proofs.Held.{count_none, count_one, count_free, count_tomb}
use Rattle.rings.proofs.Walks.{walks_on, walks_past, walks_one_way, walks_end}
use Rattle.cells.specs.declared.Probe.{Probe}
use Rattle.cells.specs.declared.Probe.TheVariants as probed
use Rattle.cells.specs.Probe.{taken_by, entered}
use Rattle.linked_hash_map.specs.declared.map.LinkedHashMap.{LinkedHashMap}
use Rattle.linked_hash_map.specs.Words.{filled, entered_from}
use Rattle.linked_hash_map.specs.Numbers.{len_after}
use Rattle.linked_hash_map.specs.Checks.{ends_at, finds_of, finds_all}

-- a record that its key's probe offers no cell is not entered
pub not_taken : (ws : List ℕ) (n s : ℕ) (r : Probe) → ((c : ℕ) → r ≡ probed.Free c → ⊥) → ws ≡ taken_by ws n s r
not_taken ws n s (probed.At c x) none = refl
not_taken ws n s (probed.Free c) none = absurd (none c refl)
not_taken ws n s probed.Full none = refl

pub not_ended : (s : ℕ) (r : Probe) → ((c x : ℕ) → r ≡ probed.At c x → ⊥) → false ≡ ends_at s r
not_ended s (probed.At c x) none = absurd (none c x refl)
not_ended s (probed.Free c) none = refl
not_ended s probed.Full none = refl

-- words set to 0 in one piece
zeroed_mid : (b f : ℕ) (ws : List ℕ) → b + f ≤ length ws → put_mid b f ws (replicate f 0) ≡ zeroed ws b f
unfolding zeroed
zeroed_mid b zero ws h = take-append-drop b ws
zeroed_mid b (suc f) ws h =
    let first : b < length ws = omega arith in
    let rest : drop (suc f) (drop b ws) ≡ drop f (drop (b + 1) ws) = drop-drop (suc f) b ws ∙ ap (λ (n : ℕ). drop n ws) (omega arith) ∙ sym (drop-drop f (b + 1) ws) in
    rw rest
    (sym (append_assoc (take b ws) (0 ∷ []) (replicate f 0 ++ drop f (drop (b + 1) ws)))
    ∙ (let t = take_more_set ws b 0 first in let d = drop-set-lt (b + 1) ws b 0 (omega arith) in rw (← t, ← d) refl)
    ∙ zeroed_mid (b + 1) f (set ws b 0) (simp length-set (omega arith)))

pub zeroed_part : (b g f : ℕ) (ws ys : List ℕ) → g ≡ f → b + f ≤ length ws → ys ≡ replicate (length (take g (drop b ws))) 0 → put_mid b g ws ys ≡ zeroed ws b f
zeroed_part b g f ws ys q h e =
    let n : length (take f (drop b ws)) ≡ f = length-take-le f (drop b ws) (omega (arith, length-drop b ws)) in
    let all : ys ≡ replicate f 0 = e ∙ ap (λ (x : ℕ). replicate (length (take x (drop b ws))) 0) q ∙ ap (λ (x : ℕ). replicate x 0) n in
    rw (q, all) (zeroed_mid b f ws h)

-- a cell's value, where it stands in its word, fits a word
pub digit_fits : (p v : ℕ) → v < 65536 → v * weight p < 2 ^ 64
digit_fits p v h = let l = put_lt p 0 v (lit< tt) h in omega arith

pub then_some_cond : (b : Bool) (x : ℕ) → then_some b x ≡ cond b (Some x) None
then_some_cond true x = refl
then_some_cond false x = refl

-- a record more, up to the capacity
pub counted : (m : LinkedHashMap) {k : ℕ} → m.capacity ≤ 4096 → k ≡ min (min (m.len + 1) 18446744073709551615) m.capacity → k ≡ len_after m
unfolding len_after
counted m {k} l e = by_lt m.len m.capacity (λ h. rw (lt-ltb _ _ h) (omega (arith, e))) (λ h. rw (le-ltb _ _ h) (omega (arith, e)))

module _ (ws : List ℕ) (n : ℕ) where
  pub filled_on : (i : ℕ) → i < n → filled ws n i (n - i) ≡ filled (attached (n + 2) ws (n + 1) i) n (i + 1) (n - (i + 1))
  unfolding filled
  filled_on i h = let e : n - i ≡ suc (n - (i + 1)) = omega arith in ap (filled ws n i) e

  pub filled_end : (i : ℕ) → n ≤ i → filled ws n i (n - i) ≡ ws
  unfolding filled
  filled_end i h = let e : n - i ≡ 0 = omega arith in ap (filled ws n i) e

  module _ (k x : ℕ) where
    pub entered_end : k ≤ 0 → entered_from ws n k x ≡ ws
    unfolding entered_from
    entered_end h = let e : k ≡ 0 = omega arith in rw e refl

    pub entered_past : 0 < k → n ≤ x → entered_from ws n k x ≡ ws
    unfolding entered_from
    entered_past h l = let e : k ≡ suc (k - 1) = omega arith in rw (e, le-ltb x n l)

    pub entered_on : (g : ℕ) → k ≡ suc g → x < n → entered_from ws n k x ≡ entered_from (entered ws n x) n g (next (entered ws n x) x)
    unfolding entered_from
    entered_on g e l = rw (e, lt-ltb x n l)

    pub finds_end : k ≤ 0 → finds_all ws n k x ≡ true
    unfolding finds_all
    finds_end h = let e : k ≡ 0 = omega arith in rw e refl

    pub finds_past : 0 < k → n ≤ x → finds_all ws n k x ≡ false
    unfolding finds_all
    finds_past h l = let e : k ≡ suc (k - 1) = omega arith in rw (e, le-ltb x n l)

    pub finds_lost : 0 < k → x < n → finds_of ws n x ≡ false → finds_all ws n k x ≡ false
    unfolding finds_all
    finds_lost h l q = let e : k ≡ suc (k - 1) = omega arith in rw (e, lt-ltb x n l, q)

    pub finds_on : (g : ℕ) → k ≡ suc g → x < n → finds_of ws n x ≡ true → finds_all ws n k x ≡ finds_all ws n g (next ws x)
    unfolding finds_all
    finds_on g e l q = rw (e, lt-ltb x n l, q)

-- the steps of each loop, and its end
pub ruleset filling = (filled_on, filled_end)

pub ruleset entering = (entered_on, entered_past, entered_end)

pub ruleset finding = (finds_on, finds_past, finds_lost, finds_end)

pub ruleset walking = (walks_on, walks_past, walks_one_way, walks_end)

pub ruleset counting = (count_none, count_one, count_free, count_tomb)

pub ruleset fitting = (digit_le, put_lt, digit_fits)
