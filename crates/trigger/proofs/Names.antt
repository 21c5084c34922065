-- The application's bytes and what they say are one another's inverse.
--   name_back, name-fro   from bytes and back, from an application and back
--   name-size             as many bytes
--   name-fits             bytes say what fits
--   name_told, id-told    the description and the id's place are those that the reader answers
use mathlib.Core.Path.{◌≡◌, refl, sym}
use mathlib.Core.List.{List, [], ◌∷◌, ◌++◌}
use Prim.Native.Nat.{ℕ, ◌+◌, ◌*◌, ◌/◌, ◌%◌, ◌≤◌}
use native.Mathlib.Omega.{arith}
use lib.Dec.{eqb}
use lib.ListN.{length, length-drop}
use lib.Seq.{get_or-drop}
use borrow.Author.Tests.{ne_eqb, eqb-false}
use Rattle.base.specs.Octets.{Octets}
use Rattle.base.proofs.Cases.{by}
use Rattle.base.proofs.Bytes.{word-high, word_low, word_fits, word-part, length_part}
use Rattle.trigger_faults.specs.Fields.{id_length}
use Rattle.trigger.specs.Trigger.{description_of, id_of}
use Rattle.trigger.specs.Layout.{Application, name_bytes, FitName, two_bytes, description_in, id_in}
use Rattle.trigger.specs.Message.{name_from, name_in}

pub name_back : (c : List ℕ) → Octets c → (length c ≡ 1 → ⊥) → name_bytes (name_from c) ≡ c
unfolding name_from
name_back [] b z = refl
name_back (x ∷ []) b z = absurd (z refl)
name_back (x ∷ (y ∷ r)) b z =
    rw (ne_eqb (length (x ∷ (y ∷ r))) 0 (λ e. omega arith), word-high (x ∷ (y ∷ r)) b 0, word_low (x ∷ (y ∷ r)) b 0)

pub name-size : (c : List ℕ) → (length c ≡ 1 → ⊥) → length (name_bytes (name_from c)) ≡ length c
unfolding name_from
name-size [] z = refl
name-size (x ∷ []) z = absurd (z refl)
name-size (x ∷ (y ∷ r)) z = rw (ne_eqb (length (x ∷ (y ∷ r))) 0 (λ e. omega arith))

pub name-fro : (a : Application) → name_from (name_bytes a) ≡ a
unfolding name_from
name-fro Application.all = refl
name-fro (Application.named d id) =
    let e : d / 256 * 256 + d % 256 ≡ d = omega arith in
    rw (ne_eqb (length (two_bytes d ++ id)) 0 (λ e. omega arith), e)

pub name-fits : (c : List ℕ) → Octets c → FitName (name_from c)
unfolding name_from
name-fits c b =
    by (eqb (length c) 0) (λ t. rw t tt) (λ f. rw f (word_fits c b 0, λ k. rw get_or-drop (b (2 + k))))

module _ (s : List ℕ) (ends : 3 + id_length s ≤ length s) (z : id_length s ≡ 1 → ⊥) where
  pub name_told : description_of s ≡ description_in (name_from (name_in s))
  unfolding description_of name_from
  name_told =
      rw (length_part s 3 (id_length s) ends)
      (by (eqb (id_length s) 0)
      (λ t. rw t)
      (λ f. rw f (let y : id_length s ≡ 0 → ⊥ = eqb-false _ _ f in sym (word-part s 3 (id_length s) 0 (omega arith)))))

  pub id-told : id_of (id_length s) ≡ id_in (name_from (name_in s))
  unfolding id_of name_from
  id-told =
      rw (length_part s 3 (id_length s) ends)
      (by (eqb (id_length s) 0) (λ t. rw t) (λ f. rw (f, length-drop, length_part s 3 (id_length s) ends)))
