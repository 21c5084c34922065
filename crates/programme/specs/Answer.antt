-- The number and the values of each answer about an NRT-IT section.
use Rattle.std.specs.Prelude.{ℕ, ◌≡◌, List, [], ◌∷◌, Ok, Err, Some, None}
use Rattle.refusal.specs.Refusal.{number}
use Rattle.answers.specs.Answers.{Told, told}
use Rattle.programme.specs.declared.Programme.{Programme}
use Rattle.programme.specs.declared.Item.{Item}
use Rattle.programme.specs.Reading.{Reading, Step, Own}

-- the four numbers before the items
abbrev pub programme_numbers : Programme → List ℕ
programme_numbers p = p.service ∷ p.start ∷ p.minutes ∷ p.items ∷ []

abbrev pub reading_told : Reading → Told
reading_told (Ok p) = told 0 (programme_numbers p)
reading_told (Err r) = told (number r) []

-- an item's twelve numbers. A host gets ten of them, out of which the others come back (`programme_items`, `specs/Items.antt`)
abbrev pub item_numbers : Item → List ℕ
item_numbers i =
    i.linkage ∷ i.flags ∷ i.playback ∷ i.delay ∷ i.expires ∷ i.size
    ∷ i.nameat ∷ i.named
    ∷ i.descriptors.count ∷ i.descriptors.place ∷ i.descriptors.length
    ∷ i.next ∷ []

-- what a step found comes first: 1, an item, or 2, that the section has no item of that number
abbrev pub step_told : Step → Told
step_told (Ok (Some i)) = told 0 (1 ∷ item_numbers i)
step_told (Ok None) = told 0 (2 ∷ [])
step_told (Err r) = told (number r) []

abbrev pub own_told : Own → Told
own_told (Ok l) = told 0 (l.count ∷ l.place ∷ l.length ∷ [])
own_told (Err r) = told (number r) []

-- they lose nothing
abbrev pub ReadingTold : Type 0
ReadingTold = (x y : Reading) → reading_told x ≡ reading_told y → x ≡ y

abbrev pub StepTold : Type 0
StepTold = (x y : Step) → step_told x ≡ step_told y → x ≡ y

abbrev pub OwnTold : Type 0
OwnTold = (x y : Own) → own_told x ≡ own_told y → x ≡ y
