-- What a book in words is, and which model it stands for.
use Rattle.std.specs.Prelude.{◌≡◌, List, ℕ, ◌+◌, ◌*◌, ◌≤◌, length, get_or, drop}
use Rattle.lazy_heap_model.specs.Model.{Heap}
use Rattle.fast_lru.specs.Lru as list
use Rattle.expiration_index.specs.Index as index
use Rattle.expiring.specs.declared.expiring.Expiring.{Expiring}
use Rattle.expiring_model.specs.Model.{Book}

-- the words of a book for c values and d deadlines: the list's 64 + 8 c, and then the index's 64 + 32 d
abbrev pub words_for : ℕ → ℕ → ℕ
words_for c d = 128 + 8 * c + 32 * d

abbrev pub start : ℕ → ℕ
start c = 64 + 8 * c

-- `book_limits` refuses nothing, as facts
pub record Room (l c d : ℕ) : Type 0 where
  pub capacity : c ≤ 4096
  pub some : 1 ≤ d
  pub limit : d ≤ 4096
  pub words : words_for c d ≤ l

abbrev pub capacity_of : Expiring → ℕ
capacity_of b = b.inner.map.capacity

abbrev pub limit_of : Expiring → ℕ
limit_of b = b.index.heap.scores.capacity

-- the index's part of the words
abbrev pub rest : List ℕ → Expiring → List ℕ
rest ws b = drop (start (capacity_of b)) ws

-- the words and numbers form a book: a recency list, and behind it an index
pub record IsBook (ws : List ℕ) (b : Expiring) : Type 0 where
  pub list : list.IsList ws b.inner
  pub index : index.IsIndex (rest ws b) b.index

-- the heap of its deadlines, from whose entries the discarded counts are read
abbrev pub heap_of : List ℕ → Expiring → Heap
heap_of ws b = index.heap_of (rest ws b) b.index

-- the model that a book stands for. No words hold how many pairs were replaced and removed so far.
unfoldable pub model_of : List ℕ → Expiring → ℕ → ℕ → Book
model_of ws b replaced removed = record {
  capacity = capacity_of b;
  limit = limit_of b;
  lifetime = b.default_ttl;
  stored = list.model_of ws b.inner;
  deadlines = index.model_of (rest ws b) b.index;
  expirations = b.expirations;
  replaced = replaced;
  removed = removed;
}

-- the words past a book's own are untouched
pub record Kept (c d : ℕ) (ws ws' : List ℕ) : Type 0 where
  pub size : length ws' ≡ length ws
  pub past : (j : ℕ) → words_for c d ≤ j → get_or ws' j 0 ≡ get_or ws j 0
