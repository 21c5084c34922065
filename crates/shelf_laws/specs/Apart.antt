-- Offers of other tables' sections, after a history. The theorem is in proofs/Apart.
use Rattle.std.specs.Prelude.{◌≡◌, List, [], ◌∷◌, ◌++◌, ℕ}
use Rattle.key.specs.declared.Key.{Key}
use Rattle.shelf_laws.specs.Named.{key_in}
use Rattle.shelf_laws.specs.History.{Question, Call, about, reply_after}

-- these payloads are offered, one after the other
abbrev pub offers_of : List (List ℕ) → List Call
offers_of [] = []
offers_of (p ∷ ps) = Call.offer p ∷ offers_of ps

-- none of them has that key
abbrev pub Others : Key → List (List ℕ) → Type 0
Others key [] = Unit {0}
Others key (p ∷ ps) = (¬ (key_in p ≡ key)) × Others key ps

-- then every question about the table is answered as before them, whatever they were answered
abbrev pub OthersStay : Type 0
OthersStay =
    (h : List Call) (payloads : List (List ℕ)) (q : Question)
    → Others (about q) payloads
    → reply_after (h ++ offers_of payloads) q ≡ reply_after h q
