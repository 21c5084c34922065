-- How a definition chooses: by a test, or by a table of refusals that is read from the top, its rows in document 01's order.
use Rattle.std.specs.Prelude.{List, [], ◌∷◌, Bool, true, false, if◌then◌else◌}
use Rattle.refusal.specs.declared.Refusal.{Refusal}

infixr 5 If◌then◌else◌
-- the first where the test holds, else the second: of statements, and of what holds them; of values it is the library's own if
abbrev pub If◌then◌else◌ {ℓ} : {A : Type ℓ} → Bool → A → A → A
If◌then◌else◌ true a b = a
If◌then◌else◌ false a b = b

-- a row of a table of refusals: which, and when it is given
pub record Row : Type 0 where
  pub refusal : Refusal
  pub when : Bool

infix 90 ◌if◌
abbrev pub ◌if◌ : Refusal → Bool → Row
r if t = record { refusal = r; when = t }

-- the refusal of the first row that holds, or what follows where none does
abbrev pub first : {A : Type 0} → (Refusal → A) → List Row → A → A
first refused [] other = other
first refused (r ∷ rs) other = if r.when then refused r.refusal else first refused rs other
