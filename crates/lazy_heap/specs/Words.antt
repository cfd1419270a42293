-- The heap's words: how many, and where the entries stand.
use Rattle.std.specs.Prelude.{◌≡◌, List, ℕ, ◌+◌, ◌-◌, ◌*◌, ◌≤◌, length, get_or, take, drop}

-- the words of a heap for n keys
abbrev pub words_for : ℕ → ℕ
words_for n = 64 + 32 * n

-- where its entries start, right after the scores
abbrev pub start : ℕ → ℕ
start n = 8 * n + 58

-- the words of the entries
abbrev pub part : ℕ → List ℕ → List ℕ
part n ws = take (words_for n - start n) (drop (start n) ws)

-- `heap_limits` refuses nothing, as facts
pub record Room (l n : ℕ) : Type 0 where
  pub some : 1 ≤ n
  pub limit : n ≤ 4096
  pub words : words_for n ≤ l

-- the words past a heap's own are untouched
pub record Kept (n : ℕ) (ws ws' : List ℕ) : Type 0 where
  pub size : length ws' ≡ length ws
  pub past : (j : ℕ) → words_for n ≤ j → get_or ws' j 0 ≡ get_or ws j 0
