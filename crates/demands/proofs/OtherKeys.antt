-- Lists of other services, and sections of other tables, have other keys.
use mathlib.Core.List.{List, [], ◌∷◌}
use mathlib.Core.Path.{◌≡◌}
use mathlib.Core.Logic.{⊎_elim}
use Prim.Native.Nat.{ℕ}
use Rattle.key.specs.Key.{nrt_it}
use Rattle.section.specs.Section.{table_id, key_in}
use Rattle.section.proofs.Keys.{lists_told_apart}
use Rattle.shelf_laws.specs.Apart.{Others}
use Rattle.demands.specs.Services.{OtherLists}

-- such lists have other keys
pub other_keys : (one : List ℕ) → table_id one ≡ nrt_it → (payloads : List (List ℕ)) → OtherLists one payloads → Others (key_in one) payloads
other_keys one i [] o = tt
other_keys one i (p ∷ ps) o = (
  λ e.
      let same = (lists_told_apart p one o.0 i).0 e in
      ⊎_elim (λ d. d same.1) (λ d. d same.2) o.1,
  other_keys one i ps o.2,
)
