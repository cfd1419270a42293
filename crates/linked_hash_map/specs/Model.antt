-- The model: a list of records with different keys, front first. It knows nothing of words.
use Rattle.std.specs.Prelude.{◌≡◌, Bool, false, cond, ◌||◌, List, [], ◌∷◌, ℕ, zero, suc, eqb, ltb, length, Option, Some, None, Result, Ok, Err}
use Rattle.linked_hash_map.specs.declared.map.Record.{Record}
use Rattle.linked_hash_map.specs.declared.map.PutError.{PutError}
use Rattle.linked_hash_map.specs.declared.map.PutError.TheVariants.{Full}

abbrev pub Model : Type 0
Model = List Record

-- whether a key is held
unfoldable pub has : ℕ → Model → Bool
has k [] = false
has k (r ∷ m) = eqb r.key k || has k m

-- the record of a key
unfoldable pub lookup : ℕ → Model → Option Record
lookup k [] = None
lookup k (r ∷ m) = cond (eqb r.key k) (Some r) (lookup k m)

-- the i-th record from the front, counted from 0
unfoldable pub nth : ℕ → Model → Option Record
nth i [] = None
nth zero (r ∷ m) = Some r
nth (suc i) (r ∷ m) = nth i m

-- the model with no record of a key
unfoldable pub without : ℕ → Model → Model
without k [] = []
without k (r ∷ m) = cond (eqb r.key k) (without k m) (r ∷ without k m)

-- the record of a key in front of the others
abbrev in_front : Option Record → Model → Model → Model
in_front (Some r) rest m = r ∷ rest
in_front None rest m = m

unfoldable pub to_front : ℕ → Model → Model
to_front k m = in_front (lookup k m) (without k m) m

-- the model with a record in the place of its key's, where the key is held
unfoldable pub with_payload : Record → Model → Model
with_payload r [] = []
with_payload r (s ∷ m) = cond (eqb s.key r.key) r s ∷ with_payload r m

-- a record put at the front of a model with room for n: the one that it replaces, or that there is no room; and the model then
abbrev placed_over : Option Record → Bool → Result (Option Record) PutError
placed_over (Some r) room = Ok (Some r)
placed_over None room = cond room (Ok None) (Err Full)

unfoldable pub placing : ℕ → Record → Model → Result (Option Record) PutError
placing n r m = placed_over (lookup r.key m) (ltb (length m) n)

unfoldable pub put : ℕ → Record → Model → Model
put n r m = cond (has r.key m || ltb (length m) n) (r ∷ without r.key m) m

-- a record at the front in the place of a key's; where its own key is held, nowhere
unfoldable pub recycled : ℕ → Record → Model → Model
recycled k r m = cond (has k m) (cond (has r.key (without k m)) (without k m) (r ∷ without k m)) m

-- no two records have one key
abbrev pub Absent : ℕ → Model → Type 0
Absent k m = has k m ≡ false

abbrev pub Distinct : Model → Type 0
Distinct [] = Unit {0}
Distinct (r ∷ m) = Absent r.key m × Distinct m
