-- Laws of keys (`specs/Theorems.antt` has the words).
--   one_is                one key in words is one key
--   same_key_lem, key-itself, same_exactly   a test for one key holds of equal keys only
--   others_by_extension, lists_by_all    what tells two tables apart
--   begins_with, ends_with    the first two of a key, and the last two
--   from_proper           nothing is left out of a key that four numbers say
--   key-other, key-list   the key of four numbers, by whether the table is an NRT-IT
--   from_unique, same_unique   two answers that keep the promise of `key::from`, or that of `key::same`, are equal
use mathlib.Core.Path.{◌≡◌, refl, sym, ap, ◌∙◌}
use mathlib.Core.Bool.{true}
use Prim.Native.Nat.{ℕ}
use lib.Dec.{eqb}
use borrow.Author.Tests.{eq-eqb, ne_eqb, eqb-true}
use Rattle.base.proofs.Cases.{by, and_left, and_right}
use Rattle.key.specs.declared.Key.{Key}
use Rattle.key.specs.Key.{nrt_it, key_from, same_key}
pub use Rattle.key.specs.Theorems.{OneKey, Proper}
use Rattle.key.specs.Theorems.{SameExactly, OneIs, OthersByExtension, ListsByAll, BeginsWith, EndsWith, FromProper, FromUnique, SameUnique}

pub one_is : OneIs
one_is a b k = rw (k.0, k.1, k.2, k.3)

module _ (a b : Key) where
  pub said-one : same_key a b ≡ true → OneKey a b
  said-one e =
      let one = eqb a.table b.table in
      let two = eqb a.extension b.extension in
      let three = eqb a.service b.service in
      let from-two = and_right one _ e in
      let from-three = and_right two _ from-two in (
        eqb-true _ _ (and_left one _ e),
        eqb-true _ _ (and_left two _ from-two),
        eqb-true _ _ (and_left three _ from-three),
        eqb-true _ _ (and_right three _ from-three),
      )

  pub one-said : OneKey a b → same_key a b ≡ true
  one-said k =
      rw (
        eq-eqb a.table b.table k.0,
        eq-eqb a.extension b.extension k.1,
        eq-eqb a.service b.service k.2,
        eq-eqb a.start b.start k.3,
      )

  pub same_key_lem : same_key a b ≡ true → a ≡ b
  same_key_lem e = one_is a b (said-one e)

pub same_exactly : SameExactly
same_exactly a b = (said-one a b, one-said a b)

pub key-itself : (a : Key) → same_key a a ≡ true
key-itself a = one-said a a (refl, refl, refl, refl)

-- equal keys are one in words
pub is_one_lem : (a b : Key) → a ≡ b → OneKey a b
is_one_lem a b e = (ap (λ k. k.table) e, ap (λ k. k.extension) e, ap (λ k. k.service) e, ap (λ k. k.start) e)

module _ (table extension service start : ℕ) where
  pub key-other : ¬ (table ≡ nrt_it) → key_from table extension service start ≡ record { table = table; extension = extension; service = 0; start = 0 }
  unfolding key_from
  key-other d = rw (ne_eqb table nrt_it d)

  pub key-list : table ≡ nrt_it → key_from table extension service start ≡ record { table = table; extension = extension; service = service; start = start }
  unfolding key_from
  key-list e = rw (eq-eqb table nrt_it e)

  pub begins_with : BeginsWith table extension service start
  unfolding key_from
  begins_with =
      by (eqb table nrt_it)
      (λ t. record { id = rw t; further = rw t })
      (λ t. record { id = rw t; further = rw t })

pub ends_with : EndsWith
ends_with table extension service start = (
  λ e. let k = key-list table extension service start e in (ap (λ k. k.service) k, ap (λ k. k.start) k),
  λ d. let k = key-other table extension service start d in (ap (λ k. k.service) k, ap (λ k. k.start) k),
)

pub from_proper : FromProper
unfolding key_from
from_proper table extension service start = by (eqb table nrt_it) (λ t. rw (t, t)) (λ t. rw (t, t))

pub others_by_extension : OthersByExtension
others_by_extension table extension service start other begin d =
    key-other table extension service start d ∙ sym (key-other table extension other begin d)

pub lists_by_all : ListsByAll
unfolding key_from
lists_by_all extension service start extension' service' start' = (
  λ e. (ap (λ k. k.extension) e, ap (λ k. k.service) e, ap (λ k. k.start) e),
  λ w. rw (w.0, w.1, w.2),
)

pub from_unique : FromUnique
from_unique table extension service start x y e f = e ∙ sym f

pub same_unique : SameUnique
same_unique a b x y e f = e ∙ sym f
