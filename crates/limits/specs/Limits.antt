-- Document 01, "Turned back": what each layer refuses by its numbers alone, as 1, 2, 5, and then no later one.
use Rattle.std.specs.Prelude.{Bool, cond, ◌&&◌, ℕ, ◌+◌, ◌*◌, leb, eqb, ltb, Result, Ok, Err, ⊤}
use Rattle.time.specs.declared.refusal.Refusal.{Refusal}
use Rattle.time.specs.declared.refusal.Refusal.TheVariants.{LimitOutOfRange, TooFewWords, FactorTooLarge}

-- a map: n records are within the limit, and l words are enough for them
unfoldable pub map_fits : ℕ → ℕ → Bool
map_fits n l = leb n 4096 && leb (8 * n + 58) l

-- a recency list: C > 4,096 is refusal 1, fewer words than 64 + 8 C refusal 2
unfoldable pub list_limits : ℕ → ℕ → Result ⊤ Refusal
list_limits c l = cond (ltb 4096 c) (Err LimitOutOfRange) (cond (ltb l (64 + 8 * c)) (Err TooFewWords) (Ok tt))

-- a heap, and an index: N outside 1..4,096 is refusal 1, fewer words than 64 + 32 N refusal 2
unfoldable pub heap_limits : ℕ → ℕ → Result ⊤ Refusal
heap_limits n l =
    cond (eqb n 0)
    (Err LimitOutOfRange)
    (cond (ltb 4096 n) (Err LimitOutOfRange) (cond (ltb l (64 + 32 * n)) (Err TooFewWords) (Ok tt)))

-- and, where neither holds, a factor above 8 is refusal 5
abbrev and_factor : Result ⊤ Refusal → ℕ → Result ⊤ Refusal
and_factor (Err why) f = Err why
and_factor (Ok done) f = cond (ltb 8 f) (Err FactorTooLarge) (Ok tt)

unfoldable pub heap_limits_with : ℕ → ℕ → ℕ → Result ⊤ Refusal
heap_limits_with n l f = and_factor (heap_limits n l) f

-- a book: C > 4,096 or D outside 1..4,096 is refusal 1, fewer words than 128 + 8 C + 32 D refusal 2.
-- (A refused opening's numbers are all 0, and 0 is no limit of deadlines.)
unfoldable pub book_limits : ℕ → ℕ → ℕ → Result ⊤ Refusal
book_limits c d l =
    cond (ltb 4096 c)
    (Err LimitOutOfRange)
    (cond (eqb d 0)
    (Err LimitOutOfRange)
    (cond (ltb 4096 d) (Err LimitOutOfRange) (cond (ltb l (128 + 8 * c + 32 * d)) (Err TooFewWords) (Ok tt))))
