-- The laws of reading a trigger into a lent buffer (`specs/Lent.antt` has the words).
--   read_untouched, read_accepted, read_comes_back, by_its_numbers
--   lent-refused, lent-short, lent-put   each way out of a call
--   read-few, read-early, read-ends      whether numbers can be a payload's; read-long: they are eleven
--   belongs-not, belongs-by              both of the question whom a trigger is for
use mathlib.Core.Path.{◌≡◌, refl, sym, ap, subst, ◌∙◌}
use mathlib.Core.Bool.{Bool, true, false, ◌&&◌}
use mathlib.Core.List.{List, [], ◌∷◌, ◌++◌}
use Prim.Native.Nat.{ℕ, ◌+◌, ◌<◌, ◌≤◌}
use native.Mathlib.Omega.{arith}
use lib.Dec.{ltb, leb, eqb}
use lib.ListN.{length, drop, get_or, length-append}
use borrow.Author.Tests.{lt-ltb, le-leb, lt-leb, leb-true, eq-eqb, ne_eqb, ltb-true, ltb-false}
use Rattle.std.specs.Prelude.{Result, Ok, Err}
use Rattle.refusal.specs.Refusal.{number}
use Rattle.refusal.specs.declared.Refusal.{Refusal}
use Rattle.refusal.proofs.Numbers.{in_byte}
use Rattle.base.specs.Octets.{Octets}
use Rattle.base.proofs.Cases.{by, and_left}
use Rattle.answers.specs.Answers.{Out, out, puts}
use Rattle.answers.proofs.Puts.{puts-untouched, puts-values}
use Rattle.trigger.specs.declared.Target.{Target}
use Rattle.trigger.specs.declared.Trigger.{Trigger}
use Rattle.trigger.specs.Trigger.{extent, read_of}
use Rattle.trigger.specs.Belongs.{belongs_of}
use Rattle.trigger.specs.Answer.{target_numbers, numbers_of, trigger_told, trigger_back}
use Rattle.trigger.proofs.Answers.{numbers_back}
use Rattle.trigger.proofs.Places.{all_placed}
use Rattle.trigger_answers.specs.Lent.{trigger_lent, can_be_read_by, belongs_lent, ReadUntouched, ReadAccepted, ReadComesBack, ByItsNumbers}

five : (t : Target) → length (target_numbers t) ≡ 5
five Target.None = refl
five (Target.Module m) = refl
five (Target.Tap n) = refl
five (Target.AbsoluteUri e) = refl
five (Target.LidUri e) = refl
five (Target.HttpUri e) = refl
five (Target.Reserved r) = refl

pub eleven : (t : Trigger) → length (numbers_of t) ≡ 11
eleven t = let n = five t.target in omega (arith, n, length-append (target_numbers t.target) (t.user.place ∷ t.user.length ∷ []))

module _ (s fields : List ℕ) where
  module _ (r : Refusal) (e : read_of s ≡ Err r) where
    pub lent-refused : out (number r) fields ≡ trigger_lent s fields
    unfolding trigger_lent
    lent-refused = let low : 0 < number r = (in_byte r).0 in rw (e, ne_eqb (number r) 0 (omega arith))

  module _ (t : Trigger) (e : read_of s ≡ Ok t) where
    pub lent-short : length fields < 11 → out 15 fields ≡ trigger_lent s fields
    unfolding trigger_lent
    lent-short h = rw (e, eleven t, lt-ltb (length fields) 11 h)

    pub lent-put : 11 ≤ length fields → {after : List ℕ} → after ≡ numbers_of t ++ drop 11 fields → out 0 after ≡ trigger_lent s fields
    unfolding trigger_lent
    lent-put h q =
        let room : length (numbers_of t) ≤ length fields = rw (eleven t) h in
        ap (out 0) (q ∙ ap (λ n. numbers_of t ++ drop n fields) (sym (eleven t)))
        ∙ puts-values (numbers_of t) fields room
        ∙ ap (λ r. puts (trigger_told r) fields) (sym e)

  abbrev left : Out
  left = trigger_lent s fields

  -- what is so of each way out is so of the call
  each_way : (p : Out → Type 0) → ((r : Refusal) → 0 < number r → read_of s ≡ Err r → p (out (number r) fields))
      → ((t : Trigger) → read_of s ≡ Ok t → length fields < 11 → p (out 15 fields))
      → ((t : Trigger) → read_of s ≡ Ok t → 11 ≤ length fields → p (out 0 (numbers_of t ++ drop 11 fields)))
      → p left
  each_way p a b c = go (read_of s) refl
    where
      go : (x : Result Trigger Refusal) → read_of s ≡ x → p left
      go (Err r) e = subst p (lent-refused r e) (a r (in_byte r).0 e)
      go (Ok t) e =
          by (ltb (length fields) 11)
          (λ x. let h : length fields < 11 = ltb-true _ _ x in subst p (lent-short t e h) (b t e h))
          (λ x. let h : 11 ≤ length fields = ltb-false _ _ x in subst p (lent-put t e h refl) (c t e h))

  pub read_untouched : ReadUntouched s fields
  unfolding trigger_lent
  read_untouched = puts-untouched (trigger_told (read_of s)) fields

  pub read_accepted : ReadAccepted s fields
  read_accepted = (
    each_way (λ o. o.code ≡ 0 → ((t : Trigger) × (read_of s ≡ Ok t)) × (11 ≤ length fields))
        (λ n l e z. absurd (omega arith))
        (λ t e h z. absurd (omega arith))
        (λ t e h z. ((t, e), h)),
    λ w. ap (λ (o : Out). o.code) (sym (lent-put w.0.0 w.0.1 w.1 refl)),
  )

  pub read_comes_back : ReadComesBack s fields
  read_comes_back =
      each_way (λ o. o.code ≡ 0 → read_of s ≡ Ok (trigger_back o.out))
      (λ n l e z. absurd (omega arith))
      (λ t e h z. absurd (omega arith))
      (λ t e h z. e ∙ ap Ok (sym (numbers_back t (drop 11 fields))))

-- the three ways out of `can_be_read`
module _ (size : ℕ) (fields : List ℕ) where
  pub read-few : length fields < 11 → false ≡ can_be_read_by size fields
  unfolding can_be_read_by
  read-few h = rw (lt-leb 11 (length fields) h)

  module _ (long : 11 ≤ length fields) {place : ℕ} (p : place ≡ get_or fields 2 0) where
    pub read-early : place < 3 → false ≡ can_be_read_by size fields
    unfolding can_be_read_by
    read-early h = let l : get_or fields 2 0 < 3 = omega arith in rw (le-leb 11 (length fields) long, lt-leb 3 (get_or fields 2 0) l)

    pub read-ends : {a b : ℕ} → 3 ≤ place → a ≡ get_or fields 9 0 → b ≡ get_or fields 10 0 → eqb (a + b) size ≡ can_be_read_by size fields
    unfolding can_be_read_by
    read-ends h e f = let l : 3 ≤ get_or fields 2 0 = omega arith in rw (e, f, le-leb 11 (length fields) long, le-leb 3 (get_or fields 2 0) l)

  pub read-long : can_be_read_by size fields ≡ true → 11 ≤ length fields
  unfolding can_be_read_by
  read-long e = leb-true 11 (length fields) (and_left (leb 11 (length fields)) _ e)

-- whether numbers can be a payload's, each way out
pub ruleset read_laws = (read-few, read-early, read-ends)

-- both ways out of `trigger_belongs`
module _ (s fields id : List ℕ) where
  pub belongs-not : {b : Bool} → b ≡ can_be_read_by (length s) fields → b ≡ false → false ≡ belongs_lent s fields id
  unfolding belongs_lent
  belongs-not e f = rw (sym e ∙ f)

  pub belongs-by :
      {b r : Bool}
      {place size : ℕ}
      → b ≡ can_be_read_by (length s) fields
      → b ≡ true
      → place ≡ get_or fields 2 0
      → size ≡ get_or fields 3 0
      → r ≡ belongs_of s (record { idlength = get_or fields 0 0; description = 0; id = extent place size; target = Target.None; user = extent 0 0 }) id
      → r ≡ belongs_lent s fields id
  unfolding belongs_lent belongs_of
  belongs-by e f p q g = rw (sym e ∙ f) (g ∙ rw (p, q))

  pub can-be : 11 ≤ length fields → 3 ≤ get_or fields 2 0 → get_or fields 9 0 + get_or fields 10 0 ≡ length s → can_be_read_by (length s) fields ≡ true
  unfolding can_be_read_by
  can-be l p u = rw (le-leb 11 (length fields) l, le-leb 3 (get_or fields 2 0) p, eq-eqb (get_or fields 9 0 + get_or fields 10 0) (length s) u)

pub by_its_numbers : (s : List ℕ) → Octets s → (fields id : List ℕ) (t : Trigger) → ByItsNumbers s fields id t
unfolding belongs_lent
by_its_numbers s o fields id t e h =
    let left = sym (lent-put s fields t e h refl) in
    let back = numbers_back t (drop 11 fields) in
    let p = all_placed s o t e in
    let now : List ℕ = numbers_of t ++ drop 11 fields in
    let long : 11 ≤ length now = omega (arith, length-append (numbers_of t) (drop 11 fields), eleven t) in
    let low : 3 ≤ get_or now 2 0 = p.id.0 in
    let ends : get_or now 9 0 + get_or now 10 0 ≡ length s = ap (λ (x : Trigger). x.user.place + x.user.length) back ∙ p.user in
    ap (λ o. belongs_lent s o.out id) left
    ∙ ap (λ b. b && belongs_of s (trigger_back now) id) (can-be s now id long low ends)
    ∙ ap (λ x. belongs_of s x id) back
