-- The words after a link. Node i's links are the words 5 i + 3 and 5 i + 4, so two links differ unless kind and node agree,
-- and every other word stays. What `joined` keeps, the functions made of it keep.
use mathlib.Core.Path.{◌≡◌, refl}
use mathlib.Core.Logic.{◌≢◌}
use mathlib.Core.Bool.{Bool, true, false, cond}
use mathlib.Core.List.{List}
use Prim.Native.Nat.{ℕ, ◌+◌, ◌*◌, ◌%◌, ◌<◌, ◌≤◌}
use native.Mathlib.Omega.{arith}
use borrow.Author.Tests.{lt-ltb, ltb-true}
use lib.Dec.{ltb, eqb}
use lib.ListN.{length, get_or, length-set}
use lib.Seq.{get_or-set_same, get_or-set_other, lt-length-set}
use Rattle.rings.specs.Ring.{prev, next, linked, joined, detached, attached, moved, spliced}

-- ---- one link

pub length_linked : (ws : List ℕ) (a b : ℕ) → length (linked ws a b) ≡ length ws
unfolding linked
length_linked ws a b = simp length-set

pub next_linked : (ws : List ℕ) (a b : ℕ) → 5 * a + 4 < length ws → next (linked ws a b) a ≡ b
unfolding linked
next_linked ws a b h =
    let x : 5 * a + 4 ≢ 5 * b + 3 = omega arith in
    simp (get_or-set_other, get_or-set_same)

pub prev_linked : (ws : List ℕ) (a b : ℕ) → 5 * b + 3 < length ws → prev (linked ws a b) b ≡ a
unfolding linked
prev_linked ws a b h = simp (get_or-set_same, lt-length-set)

-- a word that is neither of the two stays
get_d_linked : (ws : List ℕ) (a b j : ℕ) → j ≢ 5 * a + 4 → j ≢ 5 * b + 3 → get_or (linked ws a b) j 0 ≡ get_or ws j 0
unfolding linked
get_d_linked ws a b j ha hb = simp get_or-set_other

pub next_linked_other : (ws : List ℕ) (a b i : ℕ) → i ≢ a → next (linked ws a b) i ≡ next ws i
next_linked_other ws a b i h = get_d_linked ws a b (5 * i + 4) (omega arith) (omega arith)

pub prev_linked_other : (ws : List ℕ) (a b i : ℕ) → i ≢ b → prev (linked ws a b) i ≡ prev ws i
prev_linked_other ws a b i h = get_d_linked ws a b (5 * i + 3) (omega arith) (omega arith)

-- ---- `joined`: a link where both ends are nodes, and else nothing

pub joined_in : (N : ℕ) (ws : List ℕ) (a b : ℕ) → a < N → b < N → joined N ws a b ≡ linked ws a b
unfolding joined
joined_in N ws a b ha hb = simp (lt-ltb a N ha, lt-ltb b N hb)

joined_cases : (P : List ℕ → Type 0) (N : ℕ) (ws : List ℕ) (a b : ℕ) → P ws → (a < N → b < N → P (linked ws a b)) → P (joined N ws a b)
unfolding joined
joined_cases P N ws a b h k = go (ltb a N) (ltb b N) (ltb-true a N) (ltb-true b N)
  where
    go : (s t : Bool) → (s ≡ true → a < N) → (t ≡ true → b < N) → P (cond s (cond t (linked ws a b) ws) ws)
    go true true ha hb = k (ha refl) (hb refl)
    go true false ha hb = h
    go false true ha hb = h
    go false false ha hb = h

either : (P : List ℕ → Type 0) (b : Bool) (k l : List ℕ) → P k → P l → P (cond b k l)
either P true k l hk hl = hk
either P false k l hk hl = hl

-- ---- the length

pub length_joined : (N : ℕ) (ws : List ℕ) (a b : ℕ) → length (joined N ws a b) ≡ length ws
length_joined N ws a b = joined_cases (λ l. length l ≡ length ws) N ws a b refl (λ ha hb. length_linked ws a b)

pub length_detached : (N : ℕ) (ws : List ℕ) (x : ℕ) → length (detached N ws x) ≡ length ws
unfolding detached
length_detached N ws x = simp length_joined

pub length_attached : (N : ℕ) (ws : List ℕ) (s x : ℕ) → length (attached N ws s x) ≡ length ws
unfolding attached
length_attached N ws s x = simp length_joined

pub length_moved : (N : ℕ) (ws : List ℕ) (s x : ℕ) → length (moved N ws s x) ≡ length ws
unfolding moved
length_moved N ws s x = simp (length_attached, length_detached)

pub length_spliced : (N : ℕ) (ws : List ℕ) (s t : ℕ) → length (spliced N ws s t) ≡ length ws
unfolding spliced
length_spliced N ws s t = either (λ l. length l ≡ length ws) (eqb (next ws s) s) ws _ refl (simp length_joined)

-- ---- a word that is no link

pub get_d_joined : (N : ℕ) (ws : List ℕ) (a b j : ℕ) → j % 5 ≢ 3 → j % 5 ≢ 4 → get_or (joined N ws a b) j 0 ≡ get_or ws j 0
get_d_joined N ws a b j h3 h4 = joined_cases (λ l. get_or l j 0 ≡ get_or ws j 0) N ws a b refl (λ ha hb. get_d_linked ws a b j (omega arith) (omega arith))

pub get_d_detached : (N : ℕ) (ws : List ℕ) (x j : ℕ) → j % 5 ≢ 3 → j % 5 ≢ 4 → get_or (detached N ws x) j 0 ≡ get_or ws j 0
unfolding detached
get_d_detached N ws x j h3 h4 = simp get_d_joined

pub get_d_attached : (N : ℕ) (ws : List ℕ) (s x j : ℕ) → j % 5 ≢ 3 → j % 5 ≢ 4 → get_or (attached N ws s x) j 0 ≡ get_or ws j 0
unfolding attached
get_d_attached N ws s x j h3 h4 = simp get_d_joined

pub get_d_moved : (N : ℕ) (ws : List ℕ) (s x j : ℕ) → j % 5 ≢ 3 → j % 5 ≢ 4 → get_or (moved N ws s x) j 0 ≡ get_or ws j 0
unfolding moved
get_d_moved N ws s x j h3 h4 = simp (get_d_attached, get_d_detached)

-- ---- a word past the nodes

pub past_joined : (N : ℕ) (ws : List ℕ) (a b j : ℕ) → 5 * N ≤ j → get_or (joined N ws a b) j 0 ≡ get_or ws j 0
past_joined N ws a b j h = joined_cases (λ l. get_or l j 0 ≡ get_or ws j 0) N ws a b refl (λ ha hb. get_d_linked ws a b j (omega arith) (omega arith))

pub past_detached : (N : ℕ) (ws : List ℕ) (x j : ℕ) → 5 * N ≤ j → get_or (detached N ws x) j 0 ≡ get_or ws j 0
unfolding detached
past_detached N ws x j h = simp past_joined

pub past_attached : (N : ℕ) (ws : List ℕ) (s x j : ℕ) → 5 * N ≤ j → get_or (attached N ws s x) j 0 ≡ get_or ws j 0
unfolding attached
past_attached N ws s x j h = simp past_joined

pub past_moved : (N : ℕ) (ws : List ℕ) (s x j : ℕ) → 5 * N ≤ j → get_or (moved N ws s x) j 0 ≡ get_or ws j 0
unfolding moved
past_moved N ws s x j h = simp (past_attached, past_detached)

pub past_spliced : (N : ℕ) (ws : List ℕ) (s t j : ℕ) → 5 * N ≤ j → get_or (spliced N ws s t) j 0 ≡ get_or ws j 0
unfolding spliced
past_spliced N ws s t j h = either (λ l. get_or l j 0 ≡ get_or ws j 0) (eqb (next ws s) s) ws _ refl (simp past_joined)
