-- The walk of an NRT-IT section: its fields, item after item, and the table's own loop behind them, as a host asks for them.
use Rattle.std.specs.Prelude.{ℕ, zero, suc, ◌+◌, ◌-◌, ◌≡◌, List, [], ◌∷◌, ◌++◌, Ok, Err, Some, None}
use Rattle.base.specs.Bytes.{part}
use Rattle.descriptors.specs.Loop as loops
use Rattle.programme.specs.Table.{first_item_at, num_content_items}
use Rattle.programme.specs.Reading.{Reading, Step, Own, read_of, step_of, own_of}
use Rattle.programme.specs.Answer.{reading_told, step_told, own_told}
use Rattle.programme.specs.declared.Item.{Item}

-- a walk goes on behind an item, and behind nothing else
abbrev pub onward : Step → (ℕ → List Step) → List Step
onward (Ok (Some i)) go = go i.next
onward (Ok None) go = []
onward (Err r) go = []

-- the answers of a walk from a place and an item's number, at most so many of them
unfoldable pub walk : ℕ → List ℕ → ℕ → ℕ → List Step
walk zero s at k = []
walk (suc most) s at k = step_of s at k ∷ onward (step_of s at k) (λ next. walk most s next (k + 1))

-- the walk of a section's items: as many steps as it says that it has items, and one more
abbrev pub walk_of : List ℕ → List Step
walk_of s = walk (num_content_items s + 1) s first_item_at 0

-- the place that a walk from a place comes to
abbrev pub reached : ℕ → List Step → ℕ
reached at [] = at
reached at (Ok (Some i) ∷ xs) = reached i.next xs
reached at (Ok None ∷ xs) = at
reached at (Err r ∷ xs) = at

-- its items
abbrev pub items_of : List Step → List Item
items_of [] = []
items_of (Ok (Some i) ∷ xs) = i ∷ items_of xs
items_of (Ok None ∷ xs) = items_of xs
items_of (Err r ∷ xs) = items_of xs

-- what a host is answered about a section. The table's own loop is asked for where the walk came to, which is behind the last item where
-- no step is refused
pub record Answers : Type 0 where
  pub reading : Reading
  pub steps : List Step
  pub own : Own

abbrev pub answers_to : List ℕ → Answers
answers_to s = record { reading = read_of s; steps = walk_of s; own = own_of s (reached first_item_at (walk_of s)) }

-- none of them is refused
abbrev pub Accepted : List Step → Type 0
Accepted [] = Unit {0}
Accepted (x ∷ xs) = ((step_told x).number ≡ 0) × Accepted xs

pub record Unrefused (a : Answers) : Type 0 where
  pub reading : (reading_told a.reading).number ≡ 0
  pub steps : Accepted a.steps
  pub own : (own_told a.own).number ≡ 0

-- the bytes of each item of a walk from a place, joined in order
abbrev pub tiles : List ℕ → ℕ → List Step → List ℕ
tiles s at [] = []
tiles s at (Ok (Some i) ∷ xs) = part s at (i.next - at) ++ tiles s i.next xs
tiles s at (Ok None ∷ xs) = []
tiles s at (Err r ∷ xs) = []

-- the walk of a descriptor loop gives n descriptors, and then is over
abbrev pub Counted : ℕ → List loops.Step → Type 0
Counted zero xs = xs ≡ Ok None ∷ []
Counted (suc n) [] = ⊥
Counted (suc n) (Ok (Some d) ∷ xs) = Counted n xs
Counted (suc n) (Ok None ∷ xs) = ⊥
Counted (suc n) (Err m ∷ xs) = ⊥
