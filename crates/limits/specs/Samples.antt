-- Worked examples: the edges of each limit, and exactly enough words or one less.
use Rattle.std.specs.Prelude.{Bool, true, false, List, [], ◌∷◌, ℕ, Result, Ok, Err, ⊤}
use Rattle.time.specs.declared.refusal.Refusal.{Refusal}
use Rattle.time.specs.Refusal.{number_of}
use Rattle.limits.specs.Limits.{map_fits, list_limits, heap_limits, heap_limits_with, book_limits}

-- the limits of a layer, then its words, and for a heap's last a factor
pub data Question : Type 0 where
  map : ℕ → ℕ → Question
  list : ℕ → ℕ → Question
  heap : ℕ → ℕ → Question
  heap_with : ℕ → ℕ → ℕ → Question
  book : ℕ → ℕ → ℕ → Question

-- whether it fits, or the refusal's number
pub data Answer : Type 0 where
  fits : Bool → Answer
  done : Answer
  refused : ℕ → Answer

pub record Sample : Type 0 where
  pub question : Question
  pub answer : Answer

abbrev told : Result ⊤ Refusal → Answer
told (Ok u) = done
told (Err why) = refused (number_of why)

-- what the definitions say
unfoldable pub answered : Question → Answer
answered (map n l) = fits (map_fits n l)
answered (list c l) = told (list_limits c l)
answered (heap n l) = told (heap_limits n l)
answered (heap_with n l f) = told (heap_limits_with n l f)
answered (book c d l) = told (book_limits c d l)

abbrev sample : Question → Answer → Sample
sample q a = record { question = q; answer = a }

abbrev pub samples : List Sample
samples =
    -- 58 words besides 8 a record
    sample (map 0 58) (fits true)
    ∷ sample (map 0 57) (fits false)
    ∷ sample (map 4096 32826) (fits true)
    ∷ sample (map 4096 32825) (fits false)
    ∷ sample (map 4097 32834) (fits false)
    -- 64 words besides 8 an item; none is room enough for none
    ∷ sample (list 0 64) done
    ∷ sample (list 0 63) (refused 2)
    ∷ sample (list 4096 32832) done
    ∷ sample (list 4096 32831) (refused 2)
    ∷ sample (list 4097 32840) (refused 1)
    ∷ sample (list 4097 0) (refused 1)
    -- 64 words besides 32 a key, and at least one key
    ∷ sample (heap 0 64) (refused 1)
    ∷ sample (heap 1 96) done
    ∷ sample (heap 1 95) (refused 2)
    ∷ sample (heap 4096 131136) done
    ∷ sample (heap 4096 131135) (refused 2)
    ∷ sample (heap 4097 131168) (refused 1)
    -- a factor comes last
    ∷ sample (heap_with 1 96 0) done
    ∷ sample (heap_with 1 96 8) done
    ∷ sample (heap_with 1 96 9) (refused 5)
    ∷ sample (heap_with 1 95 9) (refused 2)
    ∷ sample (heap_with 0 95 9) (refused 1)
    -- 128 words besides 8 a value and 32 a deadline; values may be none
    ∷ sample (book 0 1 160) done
    ∷ sample (book 0 1 159) (refused 2)
    ∷ sample (book 0 0 128) (refused 1)
    ∷ sample (book 2 4 272) done
    ∷ sample (book 2 4 271) (refused 2)
    ∷ sample (book 4096 4096 163968) done
    ∷ sample (book 4096 4096 163967) (refused 2)
    ∷ sample (book 4097 4096 163976) (refused 1)
    ∷ sample (book 4096 4097 164000) (refused 1)
    ∷ []
