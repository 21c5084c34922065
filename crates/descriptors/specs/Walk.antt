-- Document 01, "Descriptors": the walk of a loop, step after step.
use Rattle.std.specs.Prelude.{ℕ, zero, suc, ◌+◌, ◌/◌, ◌%◌, ◌^◌, ◌≡◌, List, [], ◌∷◌, ◌++◌, length, Ok, Err, Some, None}
use Rattle.descriptors.specs.Loop.{Step, step_of, content_of}
use Rattle.descriptors.specs.Answer.{step_code}

-- a walk goes on behind a descriptor, and behind nothing else
abbrev pub onward : Step → (ℕ → List Step) → List Step
onward (Ok (Some d)) go = go d.next
onward (Ok None) go = []
onward (Err r) go = []

-- the answers of a walk from a place, at most k of them
unfoldable pub walk : ℕ → List ℕ → ℕ → List Step
walk zero s at = []
walk (suc k) s at = step_of s at ∷ onward (step_of s at) (λ next. walk k s next)

-- the walk of a whole loop: half as many steps as it has bytes, and one more
abbrev pub walk_of : List ℕ → List Step
walk_of s = walk (length s / 2 + 1) s 0

-- no step is refused
abbrev pub Unrefused : List Step → Type 0
Unrefused [] = Unit {0}
Unrefused (x ∷ xs) = (step_code x % 2 ^ 8 ≡ 0) × Unrefused xs

-- the two-byte head of an answer's descriptor, and the view behind it
abbrev pub head_of : Step → List ℕ
head_of (Ok (Some d)) = d.tag ∷ d.length ∷ []
head_of (Ok None) = []
head_of (Err r) = []

-- heads and views, joined in order
abbrev pub tiles : List ℕ → List Step → List ℕ
tiles s [] = []
tiles s (x ∷ xs) = head_of x ++ (content_of s x ++ tiles s xs)
