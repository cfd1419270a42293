-- A line's step follows the model: from no book, by an opening or a refusal; from a book, by a call of it or a
-- refusal.
use mathlib.Core.Path.{◌≡◌, refl, sym, ap, ◌∙◌, subst}
use mathlib.Core.List.{List, []}
use Rattle.std.specs.Prelude.{Option, None, Some, option_map, Result, Ok, Err}
use Prim.Native.Nat.{ℕ, ◌<◌, ◌≤◌}
use native.Mathlib.Omega.{arith}
use borrow.Author.Tests.{lt-ltb, le-ltb}
use lib.ListN.{length}
use Rattle.time.specs.declared.tick.Tick.{Tick}
use Rattle.time.specs.declared.refusal.Refusal.{Refusal}
use Rattle.time.specs.declared.refusal.Refusal.TheVariants.{LimitOutOfRange, MalformedLine}
use Rattle.lazy_heap_model.specs.Model.{heap_len}
use Rattle.lazy_heap_model.specs.Model as heap
use Rattle.expiration_index.specs.Index.{factor}
use Rattle.expiring_model.specs.declared.answers.Answer.{Answer}
use Rattle.expiring_model.specs.declared.answers.Answer.TheVariants as answer
use Rattle.expiring.specs.declared.answers.Reply.{Reply}
use Rattle.expiring.specs.declared.expiring.Expiring.{Expiring}
use Rattle.time.specs.declared.duration.Duration.{Duration}
use Rattle.lazy_heap.specs.Answers.{outcome_of}
use Rattle.expiring_model.specs.Model.{Book, fresh}
use Rattle.expiring_model.specs.Model as book
use Rattle.expiring.specs.Book.{IsBook, heap_of, model_of}
use Rattle.expiring.specs.Calls.{Following, Opening, opening_of}
use Rattle.expiring_model.specs.Model.{default_of}
use Rattle.forms.specs.declared.form.Call.{Call}
use Rattle.forms.specs.declared.form.Form.{Form}
use Rattle.forms.specs.declared.form.Form.TheVariants as form
use Rattle.forms.specs.declared.form.Lifetime.{Lifetime}
use Rattle.time.specs.Duration.{duration_of}
use Rattle.session.specs.declared.step.Session as code
use Rattle.session.specs.declared.step.Session.TheVariants as session
use Rattle.forms.specs.Forms.{Reads}
use Rattle.session.specs.declared.answer.Counts.{Counts}
use Rattle.session.specs.Answers.{line_of, Prints}
use Rattle.session.specs.Session.{State, waiting, running, Step, counts, refused_first, opening, calling, malformed, step, call_of, Stands, unopened, opened, over, Written, Follows, room, Safe, Begins, Opens, Continues, Replies, Tells, Steps}
use Rattle.forms.proofs.Spellings.{reads_once}
use Rattle.session.proofs.Printing.{printed}

-- ---- a first line
abbrev zeros : Counts
zeros = record { discarded = 0; heap = 0; held = 0 }

pub refuse_begins : {ws ws' out out' : List ℕ} (why : Refusal) {n : ℕ} {to : Step} → room ≤ length out → Prints out (answer.Refused why) zeros out' n → (to ≡ refused_first why) × (ws' ≡ ws) → Begins ws out to ws' session.Ended out' n
refuse_begins {ws} {ws'} {out} {out'} why enough p (e, same) =
    rw e (record {
      safe = record { words = ap length same; lent = p.size; within = p.within };
      follows = record { state = over; written = printed (answer.Refused why) zeros enough p };
    })

pub no_counts : (c : Counts) → (c.discarded ≡ 0) × ((c.heap ≡ 0) × (c.held ≡ 0)) → c ≡ zeros
no_counts c (d, (h, l)) = λ i. record { discarded = d i; heap = h i; held = l i }

pub open_begins : {ws ws' out : List ℕ} {b : Expiring} {to : Step} {r : Result Expiring Refusal} → Opens ws to ws' r → r ≡ Ok b → Begins ws out to ws' (session.Open b) out 0
open_begins o e =
    let (stands, silent) = o.opened _ e in
    record {
      safe = record { words = o.words; lent = refl; within = omega arith };
      follows = record { state = stands; written = rw silent (record { size = refl; bytes = refl }) };
    }

pub opens_none : (ws : List ℕ) {why : Refusal} {to : Step} → to ≡ refused_first why → Opens ws to ws (Err why)
opens_none ws {why} e = record {
  words = refl;
  opened = λ b h. absurd (let z : ◌≡◌ {A = ℕ} 0 1 = cc in omega arith);
  refused = λ why' h. let same : why ≡ why' = cc in (rw same at e, refl);
}

module _ (size c d s : ℕ) (l : Option Duration) where
  pub wide_capacity : 128 < c → opening size c d s l ≡ refused_first LimitOutOfRange
  unfolding opening
  wide_capacity h = rw (lt-ltb 128 c h) refl

  pub wide_limit : c ≤ 128 → 128 < d → opening size c d s l ≡ refused_first LimitOutOfRange
  unfolding opening
  wide_limit k h = rw (le-ltb 128 c k, lt-ltb 128 d h) refl

  module _ (k : c ≤ 128) (h : d ≤ 128) where
    opening_refused : {why : Refusal} → opening_of c d size l ≡ Err why → opening size c d s l ≡ refused_first why
    unfolding opening
    opening_refused e = rw (le-ltb 128 c k, le-ltb 128 d h, e) refl

    opening_done : opening_of c d size l ≡ Ok tt → opening size c d s l ≡ (running (fresh c d (default_of l)) (heap.opened d factor s), [])
    unfolding opening
    opening_done e = rw (le-ltb 128 c k, le-ltb 128 d h, e) refl

module _ (ws ws' : List ℕ) (c d s : ℕ) (l : Option Duration) (r : Result Expiring Refusal) (k : c ≤ 128) (h : d ≤ 128) (o : Opening ws c d s l ws' r) where
  stands_fresh : (b : Expiring) → r ≡ Ok b → Stands ws' (session.Open b) (running (fresh c d (default_of l)) (heap.opened d factor s))
  unfolding fresh
  stands_fresh b e = subst (λ (z : heap.Heap). Stands ws' (session.Open b) (running (fresh c d (default_of l)) z)) (o.heap b e) (opened (o.book b e) (o.model b e))

  pub opens_book : Opens ws (opening (length ws) c d s l) ws' r
  opens_book = record {
    words = o.kept.size;
    opened = λ b e. let done = opening_done (length ws) c d s l k h (sym o.outcome ∙ ap outcome_of e) in (rw done (stands_fresh b e), rw done refl);
    refused = λ why e. (opening_refused (length ws) c d s l k h (sym o.outcome ∙ ap outcome_of e), o.refused why e);
  }

-- a form that opens a book, with the lifetime that it names
pub opens_form : {ws ws' : List ℕ} {f : Option Form} {c d s : ℕ} {l : Option Lifetime} {m : Option Duration} {r : Result Expiring Refusal} → f ≡ Some (form.Book c d s l) → m ≡ option_map (λ t. duration_of t.secs t.nanos) l → Opens ws (opening (length ws) c d s m) ws' r → Opens ws (step (length ws) waiting f) ws' r
opens_form e q o = rw (e, sym q) o

-- ---- a later line
line_same : {a a' : Answer} {d d' : ℕ} {h h' : heap.Heap} {l l' : ℕ} → a ≡ a' → d ≡ d' → h ≡ h' → l ≡ l' → line_of a (record { discarded = d; heap = heap_len h; held = l }) ≡ line_of a' (record { discarded = d'; heap = heap_len h'; held = l' })
line_same ea ed eh el = rw (ea, ed, eh, el) refl

module _ {ws ws' : List ℕ} {b : Expiring} (t : Tick) (c : book.Call) {r : Reply} (a : Following ws b t c ws' r) (o : IsBook ws b) where
  module _ (m n : ℕ) where
    same_line : line_of r.answer (counts r.discarded (model_of ws' r.book 0 0) (heap_of ws' r.book)) ≡ (calling t c (model_of ws b m n) (heap_of ws b)).1
    unfolding calling model_of
    same_line = line_same (a.answer o m n) (a.discarded o m n) (a.heap o m n) (ap (λ (z : Book). length z.deadlines) (a.model o m n))

    same_state : Stands ws' (session.Open r.book) (calling t c (model_of ws b m n) (heap_of ws b)).0
    unfolding calling
    same_state = rw (sym (a.heap o m n)) (opened (a.book o) (a.model o m n))

  module _ (p : Book) (e : model_of ws b p.replaced p.removed ≡ p) where
    call_line : line_of r.answer (counts r.discarded (model_of ws' r.book 0 0) (heap_of ws' r.book)) ≡ (calling t c p (heap_of ws b)).1
    call_line = subst (λ (z : Book). line_of r.answer (counts r.discarded (model_of ws' r.book 0 0) (heap_of ws' r.book)) ≡ (calling t c z (heap_of ws b)).1) e (same_line p.replaced p.removed)

    call_state : Stands ws' (session.Open r.book) (calling t c p (heap_of ws b)).0
    call_state = subst (λ (z : Book). Stands ws' (session.Open r.book) (calling t c z (heap_of ws b)).0) e (same_state p.replaced p.removed)

pub call_replies : {ws ws' : List ℕ} {b : Expiring} {f : Option Form} (t : ℕ) (c : Call) {r : Reply} → Following ws b (record { 0 = t }) (call_of c) ws' r → f ≡ Some (form.At t c) → Replies ws b f ws' r
call_replies t c a e = rw e (record {
  words = a.kept.size;
  book = a.book;
  state = λ p o m. call_state (record { 0 = t }) (call_of c) a o p m;
  line = λ p o m. call_line (record { 0 = t }) (call_of c) a o p m;
})

abbrev bad : Expiring → Reply
bad b = record { book = b; answer = answer.Refused MalformedLine; discarded = 0 }

-- where the book's answer is refusal 6, and is written
module _ {ws out out' : List ℕ} {b : Expiring} {n : ℕ} (k : Tells ws (bad b) out out' n) where
  pub malformed_follows : (p : Book) → IsBook ws b → model_of ws b p.replaced p.removed ≡ p → Follows out (malformed p (heap_of ws b)) ws (session.Open b) out' n
  unfolding malformed model_of
  malformed_follows p o m = record {
    state = opened o m;
    written = subst (λ (z : Book). Written out (line_of (answer.Refused MalformedLine) (counts 0 z (heap_of ws b))) out' n) m (k.written o);
  }

pub malformed_replies : (ws : List ℕ) (b : Expiring) {f : Option Form} → ((p : Book) → step (length ws) (running p (heap_of ws b)) f ≡ malformed p (heap_of ws b)) → Replies ws b f ws (bad b)
unfolding malformed model_of
malformed_replies ws b e = record {
  words = refl;
  book = λ o. o;
  state = λ p o m. rw (e p) (opened o m);
  line = λ p o m. rw (e p) (ap (λ (z : Book). line_of (answer.Refused MalformedLine) (counts 0 z (heap_of ws b))) m);
}

pub continues : {ws ws' out out' : List ℕ} {b : Expiring} {f : Option Form} {r : Reply} {n : ℕ} → Replies ws b f ws' r → Tells ws' r out out' n → Continues ws b f out ws' (session.Open r.book) out' n
continues {out = out} {out' = out'} {n = n} a k = record {
  safe = record { words = a.words; lent = k.lent; within = k.within };
  follows = λ p o m. record { state = a.state p o m; written = subst (λ (z : List ℕ). Written out z out' n) (a.line p o m) (k.written (a.book o)) };
}

-- what is no call is malformed
pub other_replies : (ws : List ℕ) (b : Expiring) {f : Option Form} → ((t : ℕ) (c : Call) → f ≡ Some (form.At t c) → ⊥) → Replies ws b f ws (bad b)
other_replies ws b {f} n = malformed_replies ws b (go f n)
  where
    go : (f : Option Form) → ((t : ℕ) (c : Call) → f ≡ Some (form.At t c) → ⊥) → (p : Book) → step (length ws) (running p (heap_of ws b)) f ≡ malformed p (heap_of ws b)
    go (Some (form.At t c)) n p = absurd (n t c refl)
    go (Some (form.Book c d s l)) n p = refl
    go None n p = refl

-- ---- any line
pub step_short : {ws out line : List ℕ} (s : code.Session) → length out < room → Steps ws s line out ws s out 0
step_short s h = record {
  safe = record { words = refl; lent = refl; within = omega arith };
  short = λ _. (refl, refl, refl, refl);
  follows = λ e _ _ _ _. absurd (omega (arith, e, h));
}

is_waiting : {ws : List ℕ} {st : State} → Stands ws session.Waiting st → st ≡ waiting
is_waiting unopened = refl

from_book : {ws out ws' out' : List ℕ} {s' : code.Session} {n : ℕ} {f : Option Form} {b : Expiring} {st : State} → Continues ws b f out ws' s' out' n → Stands ws (session.Open b) st → Follows out (step (length ws) st f) ws' s' out' n
from_book k (opened o {p} m) = k.follows p o m

from_end : {ws out : List ℕ} (size : ℕ) (f : Option Form) {st : State} → Stands ws session.Ended st → Follows out (step size st f) ws session.Ended out 0
from_end size f over = record { state = over; written = record { size = refl; bytes = refl } }

module _ {ws out ws' out' line : List ℕ} {s s' : code.Session} {n : ℕ} (enough : room ≤ length out) where
  -- where there is room, it is enough to follow the form that was read
  stepped : {f : Option Form} → Reads line f → Safe ws out ws' out' n → ((st : State) → Stands ws s st → Follows out (step (length ws) st f) ws' s' out' n) → Steps ws s line out ws' s' out' n
  stepped {f} read safe follow = record {
    safe = safe;
    short = λ h. absurd (omega (arith, enough, h));
    follows = λ _ st a g other. subst (λ (z : Option Form). Follows out (step (length ws) st z) ws' s' out' n) (reads_once read other) (follow st a);
  }

  pub step_first : {f : Option Form} → Reads line f → s ≡ session.Waiting → Begins ws out (step (length ws) waiting f) ws' s' out' n → Steps ws s line out ws' s' out' n
  step_first {f} read e k = stepped read k.safe (λ st a. subst (λ (z : State). Follows out (step (length ws) z f) ws' s' out' n) (sym (is_waiting (subst (λ (z : code.Session). Stands ws z st) e a))) k.follows)

  pub step_next : {f : Option Form} {b : Expiring} → Reads line f → s ≡ session.Open b → Continues ws b f out ws' s' out' n → Steps ws s line out ws' s' out' n
  step_next read e k = stepped read k.safe (λ st a. from_book k (subst (λ (z : code.Session). Stands ws z st) e a))

pub step_ended : {ws out line : List ℕ} {s : code.Session} → room ≤ length out → s ≡ session.Ended → Steps ws s line out ws s out 0
step_ended {ws} {out} enough e = record {
  safe = record { words = refl; lent = refl; within = omega arith };
  short = λ h. absurd (omega (arith, enough, h));
  follows = λ _ st a f _. subst (λ (z : code.Session). Follows out (step (length ws) st f) ws z out 0) (sym e) (from_end (length ws) f (subst (λ (z : code.Session). Stands ws z st) e a));
}
