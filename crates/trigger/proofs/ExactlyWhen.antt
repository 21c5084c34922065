-- "Given exactly when": that the reading of the payload `s` keeps to document 01's numbers 20 to 26 (`specs/Theorems.antt` has the words).
--   refused_20 .. refused_26   the number is given exactly when a row of it is so and none above it is
--   not_refused                no number is given exactly when none is so
--   refused_range              no other number is given
use mathlib.Core.Path.{◌≡◌, refl, subst}
use mathlib.Core.Bool.{true}
use mathlib.Core.List.{List}
use mathlib.Core.Logic.Iff
use mathlib.Core.Logic.{◌↔◌, true-and}
use Prim.Native.Nat.{ℕ, ◌+◌, ◌<◌, ◌≤◌}
use native.Mathlib.Omega.{arith}
use lib.Dec.{ltb}
use lib.ListN.{length}
use borrow.Author.Tests.{ltb-true, lt-ltb}
use Rattle.base.specs.Bytes.{byte, word}
use Rattle.base.specs.Tables.{said, Agree, Decides}
use Rattle.base.proofs.Tables.{words, less, same, not_so, and_so, passed, among}
use Rattle.base.proofs.Below.{some-found, some-which}
use Rattle.refusal.specs.Refusal.{number, number_of}
use Rattle.std.specs.Prelude.{Result, Ok, Err}
use Rattle.refusal.specs.declared.Refusal.{Refusal}
use Rattle.trigger_faults.specs.Fields.{wrong_length, is_uri, some_high, id_length, target_at, user_at, faults}
use Rattle.trigger.specs.Trigger.{trigger_of, read_of}
use Rattle.trigger.specs.declared.Trigger.{Trigger}
use Rattle.trigger.specs.Theorems.{High, type_in, target_length, WrongLength, table, NoneBefore, refusal_of, Refused20, Refused21, Refused22, Refused23, Refused24, Refused25, Refused26, NotRefused, RefusedRange}
use Rattle.trigger.specs.Repeats.{Given, alone}
use Rattle.trigger.proofs.Repeats.{given_so, given-alone}

abbrev TwentyOn : Result Trigger Refusal → Type 0
TwentyOn (Ok t) = Unit {0}
TwentyOn (Err r) = (20 ≤ number r) × (number r ≤ 26)

pub high-so : (s : List ℕ) (at n : ℕ) → Decides (some_high s at n) (High s at n)
unfolding some_high
high-so s at n = (
  λ e. let w = some-which (λ k. ltb 127 (byte s (at + k))) n e in (w.0, w.1, ltb-true _ _ w.2),
  λ w. some-found (λ k. ltb 127 (byte s (at + k))) n w.0 w.1 (lt-ltb _ _ w.2),
)

module _ (s : List ℕ) where
  wrong-so : Decides (wrong_length (type_in s) (target_length s)) (WrongLength s)
  unfolding wrong_length
  wrong-so = search words depth 8

  uri-so : Decides (is_uri (type_in s)) ((3 ≤ type_in s) × (type_in s ≤ 5))
  unfolding is_uri
  uri-so = search words

  decided : Agree (faults s) (table s)
  decided = (
    refl,
    less 4096 (length s),
    (
      refl,
      less (length s) 1,
      (
        refl,
        not_so _ (same (byte s 0) 0),
        (
          refl,
          less (length s) 3,
          (
            refl,
            same (id_length s) 1,
            (
              refl,
              less (length s) (target_at s),
              (
                refl,
                less (length s) (target_at s + 3),
                (
                  refl,
                  wrong-so,
                  (
                    refl,
                    less (length s) (user_at s),
                    (
                      refl,
                      and_so _ _ uri-so (high-so s (target_at s + 3) (target_length s)),
                      (
                        refl,
                        less (length s) (user_at s + 2),
                        (
                          refl,
                          less (length s) (user_at s + 2 + word s (user_at s)),
                          (refl, less (user_at s + 2 + word s (user_at s)) (length s), tt),
                        ),
                      ),
                    ),
                  ),
                ),
              ),
            ),
          ),
        ),
      ),
    ),
  )

  exactly : (n : ℕ) → 0 < n → (refusal_of s ≡ n) ↔ Given n (table s)
  unfolding read_of
  exactly n p =
      given_so Err number_of (λ r. refl) (faults s) (Ok (trigger_of s)) (table s) decided n (omega arith)

  once : (n : ℕ) → 0 < n → alone n (table s) ≡ true → (refusal_of s ≡ n) ↔ (NoneBefore s n × said n (table s))
  once n p a = Iff.trans (exactly n p) (given-alone n (table s) a)

  pub refused_20 : Refused20 s
  refused_20 = exactly 20 (omega arith)

  pub refused_21 : Refused21 s
  refused_21 = once 21 (omega arith) refl

  pub refused_22 : Refused22 s
  refused_22 = once 22 (omega arith) refl

  pub refused_23 : Refused23 s
  refused_23 = once 23 (omega arith) refl

  pub refused_24 : Refused24 s
  refused_24 = once 24 (omega arith) refl

  pub refused_25 : Refused25 s
  refused_25 = once 25 (omega arith) refl

  pub refused_26 : Refused26 s
  refused_26 = Iff.trans (once 26 (omega arith) refl) true-and

  pub not_refused : NotRefused s
  unfolding read_of
  not_refused =
      Iff.trans
      (passed Err number_of (λ r. refl) (faults s) (Ok (trigger_of s)) (table s) decided 0 refl)
      (λ w. w.0, λ n. (n, refl))

  pub refused_range : RefusedRange s
  unfolding read_of
  refused_range r e = subst TwentyOn e (among Err TwentyOn (faults s) (Ok (trigger_of s)) (omega arith) tt)
