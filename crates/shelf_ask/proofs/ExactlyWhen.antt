-- "Given exactly when": document 01's numbers for asking, in their order 17, 18, 14, 16, 15, and what is answered where none
-- of them is so.
--   asked-table, copy-table              the tables in words
--   holding-exactly, copy-exactly, whole_exactly, missing-exactly    a number is given exactly when its words are so and those of none before it
--   copy-none, whole-none, missing-none  none is given exactly when none is so
--   copy-answered, copied                what is copied out then, and how much
--   copy-untouched                       a refused copy leaves the output as it was
--   answered-complete                    complete exactly when every number from 0 to the last is held
--   answered-missing                     a number is the lowest missing one exactly when it is missing and all below it are held
--   nothing-complete                     none is missing exactly when the table is complete
use Rattle.std.specs.Prelude.{if◌then◌else◌, Result, Ok, Err}
use Rattle.std.specs.declared.option.Option.{Option}
use Rattle.refusal.specs.Refusal.{number_of}
use Rattle.refusal.specs.declared.Refusal.{Refusal}
use mathlib.Core.Path.{◌≡◌, refl, sym, ap, subst, ◌∙◌}
use mathlib.Core.Bool.{Bool, true, false}
use mathlib.Core.List.{List, [], ◌∷◌, ◌++◌}
use mathlib.Core.Logic.Iff
use mathlib.Core.Logic.{◌↔◌}
use Prim.Native.Nat.{ℕ, ◌<◌, ◌≤◌}
use lib.ListN.{length}
use native.Mathlib.Omega.{arith}
use Rattle.base.specs.Tables.{Rule, ◌says◌, None, above, said, Agree}
use Rattle.base.proofs.Cases.{by}
use Rattle.base.proofs.Tables.{given, passed, silent, among, words}
use Rattle.shelf.specs.Record.{place_at, length_at, place_of}
use Rattle.key.specs.declared.Key.{Key}
use Rattle.shelf.specs.Record.{Place}
use Rattle.shelf.specs.Record.{Shelf}
use Rattle.berth.specs.Berth.{places, store_size}
use Rattle.shelf.proofs.Words.{Some, Held, HasKey, Spoiled, spoiled-exactly, not-held}
use Rattle.shelf_ask.specs.Ask.{holding_of, asked, unasked, uncopied, copy_from, copy, copy_of, whole_of, missing_of, complete, lowest_missing}
use Rattle.shelf_ask.proofs.Gaps.{Lacks, lacks-so, Lowest, lowest-one, complete-exactly, missing-lacks}

-- the answers about a table that is held
abbrev missing_here : Place → Option ℕ
missing_here place = if complete place then Option.None else Option.Some (lowest_missing place)

answer-is : {A : Type 0} {a b : A} → ◌≡◌ {A = Result A Refusal} (Ok a) (Ok b) → a ≡ b
answer-is e = cc

nothing-says : (b : Bool) (n : ℕ) → (if b then Option.None else Option.Some n) ≡ Option.None → b ≡ true
nothing-says true n e = refl
nothing-says false n e = let z : ◌≡◌ {A = ℕ} 0 1 = cc in absurd (omega arith)

missing-says : (b : Bool) (m n : ℕ) → (if b then Option.None else Option.Some m) ≡ Option.Some n → (b ≡ false) × (m ≡ n)
missing-says true m n e = let z : ◌≡◌ {A = ℕ} 0 1 = cc in absurd (omega arith)
missing-says false m n e = (refl, cc)

-- 17: a lent store not 65,536 bytes
abbrev pub StoreWrong : List ℕ → Type 0
StoreWrong store = ¬ (length store ≡ store_size)

-- 14: table not held. 18 is `Spoiled` of the shelf
abbrev pub Unheld : Shelf → Key → Type 0
Unheld shelf key = ¬ (Some places (λ p. HasKey (place_at shelf p) key))

-- 15: output too small. 16 is `Lacks`
abbrev pub TooSmall : Place → ℕ → List ℕ → Type 0
TooSmall place n out = length out < length_at place n

module _ (shelf : Shelf) (store : List ℕ) (key : Key) where
  abbrev pub asked-table : List Rule
  asked-table =
      17 says StoreWrong store
      ∷ 18 says Spoiled shelf
      ∷ 14 says Unheld shelf key
      ∷ []

  pub asked-decided : Agree (unasked shelf store key) asked-table
  asked-decided = search (words, spoiled-exactly, not-held)

  pub holding-exactly : (number : ℕ) → 0 < number
      → (number_of (holding_of shelf (length store) key) ≡ number) ↔ (None (above number asked-table) × said number asked-table)
  unfolding holding_of
  holding-exactly number p =
      given Err number_of (λ k. refl) (unasked shelf store key) (Ok (place_of shelf key)) asked-table asked-decided refl number
      (omega arith)

  module _ (n : ℕ) (out : List ℕ) where
    abbrev pub copy-table : List Rule
    copy-table = asked-table ++ (16 says Lacks (asked shelf store key) n ∷ 15 says TooSmall (asked shelf store key) n out ∷ [])

    copy-decided : Agree (unasked shelf store key ++ uncopied (asked shelf store key) n out) copy-table
    copy-decided = search (words, spoiled-exactly, not-held, lacks-so)

    -- no number: the section is copied out
    pub copy-answered : None copy-table → copy_of shelf store key n out ≡ copy_from (asked shelf store key) store (place_of shelf key) n out
    unfolding copy_of
    copy-answered = silent (λ r. copy (Err r) out) (unasked shelf store key ++ uncopied (asked shelf store key) n out) _ copy-table copy-decided

    pub copy-exactly : (number : ℕ) → 0 < number → (number_of (copy_of shelf store key n out).said ≡ number) ↔ (None (above number copy-table) × said number copy-table)
    unfolding copy_of
    copy-exactly number p =
        given (λ k. copy (Err k) out) (λ c. number_of c.said) (λ k. refl) (unasked shelf store key ++ uncopied (asked shelf store key) n out)
        (copy_from (asked shelf store key) store (place_of shelf key) n out) copy-table copy-decided refl number (omega arith)

    pub copy-none : (number_of (copy_of shelf store key n out).said ≡ 0) ↔ None copy-table
    unfolding copy_of
    copy-none =
        Iff.trans
        (passed (λ k. copy (Err k) out) (λ c. number_of c.said) (λ k. refl) (unasked shelf store key ++ uncopied (asked shelf store key) n out)
        (copy_from (asked shelf store key) store (place_of shelf key) n out) copy-table copy-decided 0 refl)
        (λ w. w.0, λ h. (h, refl))

    pub copied : (count : ℕ) → ((copy_of shelf store key n out).said ≡ Ok count) ↔ (None copy-table × (count ≡ length_at (asked shelf store key) n))
    copied count = (
      λ e.
          let h : None copy-table = copy-none.0 (ap number_of e) in
          let q : ◌≡◌ {A = Result ℕ Refusal} (Ok (length_at (asked shelf store key) n)) (Ok count) = sym (ap (λ c. c.said) (copy-answered h)) ∙ e in
          let r : count ≡ length_at (asked shelf store key) n = cc in
          (h, r),
      λ w. ap (λ c. c.said) (copy-answered w.0) ∙ ap Ok (sym w.1),
    )

    -- a refused copy leaves the output as it was
    pub copy-untouched : (r : Refusal) → (copy_of shelf store key n out).said ≡ Err r → (copy_of shelf store key n out).out ≡ out
    unfolding copy_of
    copy-untouched r e =
        among (λ k. copy (Err k) out) (λ c. c.said ≡ Err r → c.out ≡ out)
        (unasked shelf store key ++ uncopied (asked shelf store key) n out) (copy_from (asked shelf store key) store (place_of shelf key) n out)
        (λ _. refl, (λ _. refl, (λ _. refl, (λ _. refl, (λ _. refl, tt)))))
        (λ b. let z : ◌≡◌ {A = ℕ} 0 1 = cc in absurd (omega arith)) e

  pub whole_exactly : (number : ℕ) → 0 < number → (number_of (whole_of shelf store key) ≡ number) ↔ (None (above number asked-table) × said number asked-table)
  unfolding whole_of
  whole_exactly number p =
      given Err number_of (λ k. refl) (unasked shelf store key) (Ok (complete (asked shelf store key))) asked-table asked-decided refl number
      (omega arith)

  pub whole-none : (number_of (whole_of shelf store key) ≡ 0) ↔ None asked-table
  unfolding whole_of
  whole-none =
      Iff.trans
      (passed Err number_of (λ k. refl) (unasked shelf store key) (Ok (complete (asked shelf store key))) asked-table asked-decided 0 refl)
      (λ w. w.0, λ h. (h, refl))

  pub whole-answered : None asked-table → whole_of shelf store key ≡ Ok (complete (asked shelf store key))
  unfolding whole_of
  whole-answered = silent Err (unasked shelf store key) (Ok (complete (asked shelf store key))) asked-table asked-decided

  pub answered-complete : (whole_of shelf store key ≡ Ok true) ↔ (None asked-table × ((n : ℕ) → n ≤ (asked shelf store key).last → Held (asked shelf store key) n))
  answered-complete = (
    λ e.
        let h : None asked-table = whole-none.0 (ap number_of e) in
        (h, (complete-exactly (asked shelf store key)).0 (answer-is (sym (whole-answered h) ∙ e))),
    λ w. whole-answered w.0 ∙ rw ((complete-exactly (asked shelf store key)).1 w.1),
  )

  pub missing-exactly : (number : ℕ) → 0 < number → (number_of (missing_of shelf store key) ≡ number) ↔ (None (above number asked-table) × said number asked-table)
  unfolding missing_of
  missing-exactly number p =
      given Err number_of (λ k. refl) (unasked shelf store key) (Ok (missing_here (asked shelf store key))) asked-table asked-decided refl number
      (omega arith)

  pub missing-none : (number_of (missing_of shelf store key) ≡ 0) ↔ None asked-table
  unfolding missing_of
  missing-none =
      Iff.trans
      (passed Err number_of (λ k. refl) (unasked shelf store key) (Ok (missing_here (asked shelf store key))) asked-table asked-decided 0 refl)
      (λ w. w.0, λ h. (h, refl))

  pub missing-answered : None asked-table → missing_of shelf store key ≡ Ok (missing_here (asked shelf store key))
  unfolding missing_of
  missing-answered = silent Err (unasked shelf store key) (Ok (missing_here (asked shelf store key))) asked-table asked-decided

  -- the lowest missing number is missing and all below it are held
  pub answered-missing : (n : ℕ) → (missing_of shelf store key ≡ Ok (Option.Some n)) ↔ (None asked-table × Lowest (asked shelf store key) n)
  answered-missing n = (
    λ e.
        let h : None asked-table = missing-none.0 (ap number_of e) in
        let w = missing-says (complete (asked shelf store key)) (lowest_missing (asked shelf store key)) n (answer-is (sym (missing-answered h) ∙ e)) in
        (h, subst (Lowest (asked shelf store key)) w.1 (missing-lacks (asked shelf store key) w.0)),
    λ w.
        let f : complete (asked shelf store key) ≡ false =
        by (complete (asked shelf store key))
        (λ t. absurd ((complete-exactly (asked shelf store key)).0 t n w.1.most w.1.lacks))
        (λ f. f) in
        missing-answered w.0
        ∙ rw f (ap (λ m. Ok (Option.Some m)) (lowest-one (asked shelf store key) _ n (missing-lacks (asked shelf store key) f) w.1)),
  )

  -- a complete table has no missing number, and conversely
  pub nothing-complete : (missing_of shelf store key ≡ Ok Option.None) ↔ (whole_of shelf store key ≡ Ok true)
  nothing-complete = (
    λ e.
        let h : None asked-table = missing-none.0 (ap number_of e) in
        whole-answered h ∙ ap Ok (nothing-says (complete (asked shelf store key)) _ (answer-is (sym (missing-answered h) ∙ e))),
    λ e.
        let h : None asked-table = whole-none.0 (ap number_of e) in
        missing-answered h ∙ rw (answer-is (sym (whole-answered h) ∙ e)),
  )
