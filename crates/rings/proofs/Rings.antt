-- Edges, and lists of them. An edge is linked both ways, so a node has one edge in and one out: an edge that x is no end of
-- stays when x goes out, one that neither leaves s nor touches x stays when x goes in after s, and one that leaves neither
-- s nor t and does not come back to s stays when the ring of s goes in after t.
use mathlib.Core.Path.{◌≡◌, refl, sym, ap, subst, ◌∙◌}
use mathlib.Core.Logic.{◌≢◌, ◌⊎◌, inl, inr}
use mathlib.Core.List.{List, [], ◌∷◌, ◌++◌}
use Prim.Native.Nat.{ℕ, zero, suc, ◌*◌, ◌<◌, ◌≤◌}
use native.Mathlib.Omega.{arith}
use borrow.Author.Tests.{eq-eqb, ne_eqb}
use lib.ListN.{length, get_or}
use Rattle.rings.specs.Ring.{prev, next, linked, detached, attached, spliced, Edge, Linked, Ring, count, along, without}
use Rattle.rings.proofs.Links.{length_linked, next_linked, prev_linked, next_linked_other, prev_linked_other, joined_in}
use Rattle.rings.proofs.Counts.{by_eq, bit_eq, bit_ne, apart, without_nil, without_same, without_other}

-- ---- edges

-- the edge that a link makes
pub edge_new : (N : ℕ) (ws : List ℕ) (a b : ℕ) → 5 * N ≤ length ws → a < N → b < N → Edge N (linked ws a b) a b
edge_new N ws a b fit ha hb = record {
  from = ha;
  to = hb;
  forward = next_linked ws a b (omega arith);
  backward = prev_linked ws a b (omega arith);
}

-- an edge with other ends stays
pub edge_other : (N : ℕ) (ws : List ℕ) (a b i j : ℕ) → i ≢ a → j ≢ b → Edge N ws i j → Edge N (linked ws a b) i j
edge_other N ws a b i j ha hb e = record {
  from = e.from;
  to = e.to;
  forward = next_linked_other ws a b i ha ∙ e.forward;
  backward = prev_linked_other ws a b j hb ∙ e.backward;
}

-- ---- what a list of edges tells

module _ (N : ℕ) (ws : List ℕ) where
  -- the edge at place i, with a in front of l and z past its end
  pub edge_at : (a : ℕ) (l : List ℕ) (z i : ℕ) → Linked N ws a l z → i ≤ length l → Edge N ws (get_or (a ∷ l) i z) (get_or l i z)
  edge_at a [] z zero e h = e
  edge_at a [] z (suc i) e h = absurd (omega arith)
  edge_at a (x ∷ l) z zero e h = e.0
  edge_at a (x ∷ l) z (suc i) e h = edge_at x l z i e.1 (omega arith)

  pub edge_first : (a : ℕ) (l : List ℕ) (z : ℕ) → Linked N ws a l z → Edge N ws a (next ws a)
  edge_first a [] z e = rw e.forward e
  edge_first a (y ∷ l) z e = rw e.0.forward e.0

  pub edge_last : (a : ℕ) (l : List ℕ) (z : ℕ) → Linked N ws a l z → Edge N ws (prev ws z) z
  edge_last a [] z e = rw e.backward e
  edge_last a (y ∷ l) z e = edge_last y l z e.1

  -- what is neither in l nor z does not come right after a
  pub next_apart : (a : ℕ) (l : List ℕ) (z x : ℕ) → Linked N ws a l z → count x l ≡ 0 → z ≢ x → next ws a ≢ x
  next_apart a [] z x e h hz q = hz (sym e.forward ∙ q)
  next_apart a (y ∷ l) z x e h hz q = apart x y l h (sym e.0.forward ∙ q)

  -- the edges into and out of a node of l, and the first of them is from a or a node of l
  pub edges_around : (a : ℕ) (l : List ℕ) (z x : ℕ) → Linked N ws a l z → 1 ≤ count x l → Edge N ws (prev ws x) x × Edge N ws x (next ws x) × (1 ≤ count (prev ws x) (a ∷ l))
  edges_around a [] z x e h = absurd (omega arith)
  edges_around a (y ∷ l) z x e h = by_eq y x
      (λ q. rw (← q, e.0.backward) (e.0, edge_first y l z e.1, omega (arith, bit_eq a a refl)))
      (λ q. let r = edges_around y l z x e.1 (omega (arith, bit_ne y x q)) in (r.0, r.1, omega arith))

  pub along_linked : (a : ℕ) (l : List ℕ) (z : ℕ) → Linked N ws a l z → along ws (next ws a) (length l) ≡ l
  unfolding along
  along_linked a [] z e = refl
  along_linked a (y ∷ l) z e = rw e.0.forward (ap (λ (k : List ℕ). y ∷ k) (along_linked y l z e.1))

  -- other words that have the same edges
  pub linked_frame : (ws' : List ℕ) → ((a b : ℕ) → Edge N ws a b → Edge N ws' a b) → (a : ℕ) (l : List ℕ) (z : ℕ) → Linked N ws a l z → Linked N ws' a l z
  linked_frame ws' k a [] z e = k a z e
  linked_frame ws' k a (y ∷ l) z e = (k a y e.0, linked_frame ws' k y l z e.1)

-- ---- x goes out from between u and v

module _ (N : ℕ) (ws : List ℕ) (u x v : ℕ) (fit : 5 * N ≤ length ws) (eu : Edge N ws u x) (ev : Edge N ws x v) where
  -- b is where an edge out of a leaves when x is out
  abbrev Leaves : ℕ → ℕ → Type 0
  Leaves a b = ((a ≢ x) × (b ≡ a)) ⊎ ((a ≡ x) × (b ≡ u))

  edge_skip : (a b y : ℕ) → Leaves a b → y ≢ x → Edge N ws a y → Edge N (linked ws u v) b y
  edge_skip a b y (inl p) h e = rw p.1 (edge_other N ws u v a y (λ q. h (cc)) (λ q. p.0 (cc)) e)
  edge_skip a b y (inr p) h e =
      let q : y ≡ v = cc in
      rw (p.1, q) (edge_new N ws u v fit eu.from ev.to)

  leaves_skip : (a b y : ℕ) → Leaves a b → y ≡ x → Edge N ws a y → Leaves y b
  leaves_skip a b y (inl p) h e = inr (h, cc)
  leaves_skip a b y (inr p) h e = inr (h, p.1)

  linked_skip : (a b : ℕ) (l : List ℕ) (z : ℕ) → Leaves a b → z ≢ x → Linked N ws a l z → Linked N (linked ws u v) b (without x l) z
  linked_skip a b [] z p h e = rw (without_nil x) (edge_skip a b z p h e)
  linked_skip a b (y ∷ l) z p h e = by_eq y x
      (λ q. rw (without_same x y l q) (linked_skip y b l z (leaves_skip a b y p q e.0) h e.1))
      (λ q. rw (without_other x y l q) (edge_skip a b y p q e.0, linked_skip y y l z (inl (q, refl)) h e.1))

-- ---- x goes in between s and f

module _ (N : ℕ) (ws : List ℕ) (s f x : ℕ) (fit : 5 * N ≤ length ws) (hx : x < N) (es : Edge N ws s f) where
  -- an edge out of neither s nor x, and not into x, stays
  edge_in_other : (i j : ℕ) → i ≢ s → i ≢ x → j ≢ x → Edge N ws i j → Edge N (linked (linked ws x f) s x) i j
  edge_in_other i j hs hi hj e = edge_other N _ s x i j hs hj (edge_other N ws x f i j hi (λ q. hs (cc)) e)

  linked_in_other : (a : ℕ) (l : List ℕ) (z : ℕ) → count s (a ∷ l) ≡ 0 → count x (a ∷ l) ≡ 0 → z ≢ x → Linked N ws a l z → Linked N (linked (linked ws x f) s x) a l z
  linked_in_other a [] z hs h hz e = edge_in_other a z (apart s a [] hs) (apart x a [] h) hz e
  linked_in_other a (y ∷ l) z hs h hz e = (
    edge_in_other a y (apart s a (y ∷ l) hs) (apart x a (y ∷ l) h) (apart x y l (omega arith)) e.0,
    linked_in_other y l z (omega arith) (omega arith) hz e.1,
  )

  edge_in_first : Edge N (linked (linked ws x f) s x) s x
  edge_in_first = edge_new N _ s x (rw length_linked fit) es.from hx

  edge_in_second : s ≢ x → f ≢ x → Edge N (linked (linked ws x f) s x) x f
  edge_in_second hs hf = edge_other N _ s x x f (λ q. hs (sym q)) hf (edge_new N ws x f fit hx es.to)

  linked_in : (l : List ℕ) (z : ℕ) → count s l ≡ 0 → count x (s ∷ l) ≡ 0 → z ≢ x → Linked N ws s l z → Linked N (linked (linked ws x f) s x) s (x ∷ l) z
  linked_in [] z hs h hz e =
      let q : z ≡ f = cc in
      (edge_in_first, rw q (edge_in_second (apart x s [] h) (rw q at hz)))
  linked_in (y ∷ l) z hs h hz e =
      let q : y ≡ f = cc in
      (edge_in_first, (rw q (edge_in_second (apart x s (y ∷ l) h) (rw q at (apart x y l (omega arith)))), linked_in_other y l z hs (omega arith) hz e.1))

-- ---- the nodes from x to p, a ring with s, go in between t and f

module _ (N : ℕ) (ws : List ℕ) (s x p t f : ℕ) (fit : 5 * N ≤ length ws) (ex : Edge N ws s x) (ep : Edge N ws p s) (ef : Edge N ws t f) (hx : x ≢ s) (ht : t ≢ s) (hf : f ≢ s) where
  abbrev joint : List ℕ
  joint = linked (linked (linked ws t x) p f) s s

  -- an edge out of neither sentinel, and not into s, stays
  edge_over_other : (i j : ℕ) → i ≢ s → i ≢ t → j ≢ s → Edge N ws i j → Edge N joint i j
  edge_over_other i j hs hi hj e =
      edge_other N _ s s i j hs hj
      (edge_other N _ p f i j (λ q. hj (cc)) (λ q. hi (cc))
      (edge_other N ws t x i j hi (λ q. hs (cc)) e))

  linked_over_other : (a : ℕ) (l : List ℕ) (z : ℕ) → count s (a ∷ l) ≡ 0 → count t (a ∷ l) ≡ 0 → z ≢ s → Linked N ws a l z → Linked N joint a l z
  linked_over_other a [] z hs h hz e = edge_over_other a z (apart s a [] hs) (apart t a [] h) hz e
  linked_over_other a (y ∷ l) z hs h hz e = (
    edge_over_other a y (apart s a (y ∷ l) hs) (apart t a (y ∷ l) h) (apart s y l (omega arith)) e.0,
    linked_over_other y l z (omega arith) (omega arith) hz e.1,
  )

  edge_over_first : Edge N joint t x
  edge_over_first =
      edge_other N _ s s t x ht hx
      (edge_other N _ p f t x (λ q. hf (cc)) (λ q. ht (cc))
      (edge_new N ws t x fit ef.from ex.to))

  edge_over_last : (y : ℕ) → y ≡ f → Edge N joint p y
  edge_over_last y e = rw e (edge_other N _ s s p f (λ q. hx (cc)) hf (edge_new N _ p f (rw length_linked fit) ep.from ef.to))

  edge_over_alone : Edge N joint s s
  edge_over_alone = edge_new N _ s s (simp length_linked fit) ex.from ex.from

  linked_over_rest : (m : List ℕ) → count s m ≡ 0 → count t m ≡ 0 → Linked N ws t m t → Linked N joint p m t
  linked_over_rest [] hs h e = edge_over_last t (cc)
  linked_over_rest (y ∷ m) hs h e = (edge_over_last y (cc), linked_over_other y m t hs h ht e.1)

  linked_over : (a : ℕ) (l m : List ℕ) → count s (a ∷ l) ≡ 0 → count t (a ∷ l) ≡ 0 → count s m ≡ 0 → count t m ≡ 0 → Linked N ws a l s → Linked N ws t m t → Linked N joint a (l ++ m) t
  linked_over a [] m hs h ks k e o =
      let q : a ≡ p = cc in
      rw q (linked_over_rest m ks k o)
  linked_over a (y ∷ l) m hs h ks k e o = (
    edge_over_other a y (apart s a (y ∷ l) hs) (apart t a (y ∷ l) h) (apart s y l (omega arith)) e.0,
    linked_over y l m (omega arith) (omega arith) ks k e.1 o,
  )

-- ---- `detached`, `attached` and `spliced`, on a ring

module _ (N : ℕ) (ws : List ℕ) (fit : 5 * N ≤ length ws) where
  -- x goes out of every ring
  pub ring_detached : (x : ℕ) → Edge N ws (prev ws x) x → Edge N ws x (next ws x) → (s : ℕ) (l : List ℕ) → s ≢ x → Ring N ws s l
      → Ring N (detached N ws x) s (without x l)
  unfolding detached
  ring_detached x eu ev s l h r = rw (joined_in N ws (prev ws x) (next ws x) eu.from ev.to)
      (linked_skip N ws (prev ws x) x (next ws x) fit eu ev s s l s (inl (h, refl)) h r)

  attached_in : (s x : ℕ) → s < N → x < N → next ws s < N → attached N ws s x ≡ linked (linked ws x (next ws s)) s x
  unfolding attached
  attached_in s x hs hx hf = rw (joined_in N ws x (next ws s) hx hf) (joined_in N _ s x hs hx)

  module _ (s : ℕ) (l : List ℕ) (x : ℕ) (hx : x < N) (r : Ring N ws s l) where
    -- x goes in at the front of a ring
    pub ring_attached : count s l ≡ 0 → count x (s ∷ l) ≡ 0 → Ring N (attached N ws s x) s (x ∷ l)
    ring_attached hs h =
        let es = edge_first N ws s l s r in
        subst (λ (vs : List ℕ). Ring N vs s (x ∷ l)) (sym (attached_in s x es.from hx es.to)) (linked_in N ws s (next ws s) x fit hx es l s hs h (apart x s l h) r)

    -- a ring that has neither x nor s stays
    pub ring_attached_other : (t : ℕ) (m : List ℕ) → count s (t ∷ m) ≡ 0 → count x (t ∷ m) ≡ 0 → Ring N ws t m → Ring N (attached N ws s x) t m
    ring_attached_other t m hs h o =
        let es = edge_first N ws s l s r in
        rw (attached_in s x es.from hx es.to) (linked_in_other N ws s (next ws s) x fit hx es t m t hs h (apart x t m h) o)

  -- a ring goes in at the front of another
  pub ring_spliced : (s : ℕ) (l : List ℕ) (t : ℕ) (m : List ℕ) → count s l ≡ 0 → count s (t ∷ m) ≡ 0 → count t (s ∷ l) ≡ 0 → count t m ≡ 0 → Ring N ws s l → Ring N ws t m
      → Ring N (spliced N ws s t) s [] × Ring N (spliced N ws s t) t (l ++ m)
  unfolding spliced
  ring_spliced s [] t m hl hm kl km r o = rw (eq-eqb (next ws s) s r.forward) (r, o)
  ring_spliced s (x ∷ l) t m hl hm kl km r o =
      let hx : x ≢ s = apart s x l hl in
      let ht : t ≢ s = apart s t m hm in
      let hf : next ws t ≢ s = next_apart N ws t m t s o (omega arith) ht in
      let ep = edge_last N ws s (x ∷ l) s r in
      let ef = edge_first N ws t m t o in
      let e : spliced N ws s t ≡ linked (linked (linked ws t x) (prev ws s) (next ws t)) s s =
      rw (r.0.forward, ne_eqb x s hx, joined_in N ws t x ef.from r.0.to)
      (rw (joined_in N _ (prev ws s) (next ws t) ep.from ef.to) (joined_in N _ s s ep.to ep.to)) in
      subst (λ (vs : List ℕ). Ring N vs s [] × Ring N vs t (x ∷ (l ++ m))) (sym e) (
        edge_over_alone N ws s x (prev ws s) t (next ws t) fit r.0 ep ef hx ht hf,
        (
          edge_over_first N ws s x (prev ws s) t (next ws t) fit r.0 ep ef hx ht hf,
          linked_over N ws s x (prev ws s) t (next ws t) fit r.0 ep ef hx ht hf x l m hl (omega arith) (omega arith) km r.1 o,
        ),
      )
