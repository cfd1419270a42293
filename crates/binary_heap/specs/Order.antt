-- The order of entries, and lists of entries in it.
use Rattle.std.specs.Prelude.{◌≡◌, Bool, true, cond, ◌&&◌, ◌||◌, ℕ, ◌+◌, leb, ltb, eqb}
use mathlib.Core.List.{List, [], ◌∷◌, Memᴰ}
use Rattle.binary_heap.specs.declared.entries.Entry.{Entry}

-- first by one number, and where that is the same by the rest
abbrev pub lex : ℕ → ℕ → Bool → Bool
lex x y rest = ltb x y || (eqb x y && rest)

-- a is not after b: by score, then by sequence number, as `HeapEntry`'s `Ord` has it, and then by key. Where no two
-- entries share a sequence number the key never decides; with it the order is total, so that on any words the entries
-- have exactly one sorted list.
unfoldable pub le : Entry → Entry → Bool
le a b = lex a.score b.score (lex a.seq b.seq (leb a.key b.key))

-- l with e before the first entry that is not before it
unfoldable pub insert : Entry → List Entry → List Entry
insert e [] = e ∷ []
insert e (x ∷ l) = cond (le e x) (e ∷ x ∷ l) (x ∷ insert e l)

-- the entries of a list in ascending order
unfoldable pub sort : List Entry → List Entry
sort [] = []
sort (x ∷ l) = insert x (sort l)

-- no entry is after a later one
unfoldable pub Sorted : List Entry → Type 0
Sorted [] = Unit
Sorted (x ∷ l) = ((e : Entry) → Memᴰ e l → le x e ≡ true) × Sorted l

-- 1 where two entries are the same, and else 0
unfoldable pub is : Entry → Entry → ℕ
is e x = cond (eqb e.score x.score && (eqb e.seq x.seq && eqb e.key x.key)) 1 0

-- how often an entry is in a list
unfoldable pub count : Entry → List Entry → ℕ
count e [] = 0
count e (x ∷ l) = is e x + count e l

-- 1 where an entry has at most a score, and else 0
unfoldable pub is_at_most : ℕ → Entry → ℕ
is_at_most s e = cond (leb e.score s) 1 0

-- how many entries of a list have at most a score
unfoldable pub at_most : ℕ → List Entry → ℕ
at_most s [] = 0
at_most s (e ∷ l) = is_at_most s e + at_most s l
