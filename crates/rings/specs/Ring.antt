-- Nodes, their links, and two rings that hold every node between them. N is the number of nodes.
use Rattle.std.specs.Prelude.{◌≡◌, Bool, true, false, cond, ◌&&◌, List, [], ◌∷◌, ℕ, zero, suc, ◌+◌, ◌*◌, ◌<◌, ◌≤◌, ltb, eqb, length, get_or, set}

abbrev pub prev : List ℕ → ℕ → ℕ
prev ws i = get_or ws (5 * i + 3) 0

abbrev pub next : List ℕ → ℕ → ℕ
next ws i = get_or ws (5 * i + 4) 0

-- b after a
unfoldable pub linked : List ℕ → ℕ → ℕ → List ℕ
linked ws a b = set (set ws (5 * a + 4) b) (5 * b + 3) a

-- b after a, where both are nodes
unfoldable pub joined : ℕ → List ℕ → ℕ → ℕ → List ℕ
joined N ws a b = cond (ltb a N) (cond (ltb b N) (linked ws a b) ws) ws

-- x's neighbours linked to each other
unfoldable pub detached : ℕ → List ℕ → ℕ → List ℕ
detached N ws x = joined N ws (prev ws x) (next ws x)

-- x right after s
unfoldable pub attached : ℕ → List ℕ → ℕ → ℕ → List ℕ
attached N ws s x = joined N (joined N ws x (next ws s)) s x

-- x taken out of where it is, and put right after s
unfoldable pub moved : ℕ → List ℕ → ℕ → ℕ → List ℕ
moved N ws s x = attached N (detached N ws x) s x

-- the ring of s, where it is not empty, put right after t as it is; s is then alone
unfoldable pub spliced : ℕ → List ℕ → ℕ → ℕ → List ℕ
spliced N ws s t = cond (eqb (next ws s) s) ws (joined N (joined N (joined N ws t (next ws s)) (prev ws s) (next ws t)) s s)

-- a and b are nodes, b is the next of a, and a is the previous of b
pub record Edge (N : ℕ) (ws : List ℕ) (a b : ℕ) : Type 0 where
  pub from : a < N
  pub to : b < N
  pub forward : next ws a ≡ b
  pub backward : prev ws b ≡ a

-- a, then the nodes of l, then z, each linked to the one after it
abbrev pub Linked : ℕ → List ℕ → ℕ → List ℕ → ℕ → Type 0
Linked N ws a [] z = Edge N ws a z
Linked N ws a (x ∷ l) z = Edge N ws a x × Linked N ws x l z

-- the nodes of l, in a circle with s
abbrev pub Ring : ℕ → List ℕ → ℕ → List ℕ → Type 0
Ring N ws s l = Linked N ws s l s

abbrev pub bit : Bool → ℕ
bit true = 1
bit false = 0

-- how often x stands in l
abbrev pub count : ℕ → List ℕ → ℕ
count x [] = 0
count x (y ∷ l) = bit (eqb y x) + count x l

-- two rings that hold each of the N nodes once between them
pub record Two (N : ℕ) (ws : List ℕ) (s : ℕ) (l : List ℕ) (t : ℕ) (m : List ℕ) : Type 0 where
  pub fit : 5 * N ≤ length ws
  pub one : Ring N ws s l
  pub other : Ring N ws t m
  pub all : (i : ℕ) → count i (s ∷ l) + count i (t ∷ m) ≡ bit (ltb i N)
  pub size : length l + length m + 2 ≡ N

-- k nodes from x on, by their next links
unfoldable pub along : List ℕ → ℕ → ℕ → List ℕ
along ws x zero = []
along ws x (suc k) = x ∷ along ws (next ws x) k

-- k - 1, .., 1, 0
abbrev pub down : ℕ → List ℕ
down zero = []
down (suc k) = k ∷ down k

-- l without the nodes that equal x
unfoldable pub without : ℕ → List ℕ → List ℕ
without x [] = []
without x (y ∷ l) = cond (eqb y x) (without x l) (y ∷ without x l)

-- from a by the next links come k nodes below n, each linked both ways, and then z
unfoldable pub walks : List ℕ → ℕ → ℕ → ℕ → ℕ → Bool
walks ws n a z zero = eqb (next ws a) z && eqb (prev ws z) a
walks ws n a z (suc k) = ltb (next ws a) n && (eqb (prev ws (next ws a)) a && walks ws n (next ws a) z k)
