-- Of records that are not spoiled, equality is that of clock, states and the set held.
--   same_set, set_same
use mathlib.Core.Path.{◌≡◌, refl, sym, ap, subst, ◌∙◌}
use mathlib.Core.Bool.{true, false, ◌||◌}
use mathlib.Core.Logic.{inl, inr}
use mathlib.Core.List.{List, [], ◌∷◌}
use Rattle.base.proofs.Cases.{by, unlike, or_left, or_right}
use Rattle.clock_activation.specs.declared.Held.{Held}
use Rattle.clock_activation.specs.Activation.{alike}
use Rattle.clock_record.specs.Lists.{Rearranged, any_of}
use Rattle.clock_record.specs.Held.{is_held, two_alike, wrong, spoiled_by}
use Rattle.clock_record.specs.Book.{Book, Same, spoiled}
use Rattle.clock_laws.specs.Members.{Member, OneSet}
use Rattle.clock_laws.proofs.Lists.{rearranged-refl, rearranged-sym}
use Rattle.clock_laws.proofs.Alike.{alike_refl}
use Rattle.clock_laws.proofs.Equal.{two-rearranged, sound-distinct}

module _ {A : Type 0} where
  pub member-rearranged : (x : A) {l r : List A} → Rearranged l r → Member x l → Member x r
  member-rearranged x Rearranged.none m = m
  member-rearranged x (Rearranged.keep s) (inl e) = inl e
  member-rearranged x (Rearranged.keep s) (inr m) = inr (member-rearranged x s m)
  member-rearranged x Rearranged.swap (inl e) = inr (inl e)
  member-rearranged x Rearranged.swap (inr (inl e)) = inl e
  member-rearranged x Rearranged.swap (inr (inr m)) = inr (inr m)
  member-rearranged x (Rearranged.next s t) m = member-rearranged x t (member-rearranged x s m)

  -- a member may stand in front
  to-front-of : (x : A) (l : List A) → Member x l → (r : List A) × Rearranged l (x ∷ r)
  to-front-of x [] m = elim m [ ]
  to-front-of x (y ∷ l) (inl e) = (l, rw e (rearranged-refl (y ∷ l)))
  to-front-of x (y ∷ l) (inr m) = let w = to-front-of x l m in (y ∷ w.0, Rearranged.next (Rearranged.keep w.1) Rearranged.swap)

member-held : (h : Held) (l : List Held) → Member h l → is_held h.activation l ≡ true
unfolding any_of
member-held h [] m = elim m [ ]
member-held h (x ∷ l) (inl e) = rw (ap (λ (y : Held). alike h.activation y.activation) (sym e) ∙ alike_refl h.activation)
member-held h (x ∷ l) (inr m) =
    let ih = member-held h l m in
    by (alike h.activation x.activation) (λ t. rw t) (λ t. rw (t, ih))

-- where no two are alike, the first of a list is not again in the rest
fresh-first : (x : Held) (l : List Held) → two_alike (x ∷ l) ≡ false → (h : Held) → h ≡ x → Member h l → ⊥
unfolding two_alike
fresh-first x l t h e m =
    unlike (sym (member-held x l (subst (λ (y : Held). Member y l) e m)) ∙ or_left (is_held x.activation l) (two_alike l) t)

rest-apart : (x : Held) (l : List Held) → two_alike (x ∷ l) ≡ false → two_alike l ≡ false
unfolding two_alike
rest-apart x l t = or_right (is_held x.activation l) (two_alike l) t

-- a member of the whole that is one of the rest
in_rest : (x h : Held) (l r : List Held) → two_alike (x ∷ l) ≡ false → Member h l → Member h (x ∷ r) → Member h r
in_rest x h l r t m (inl e) = absurd (fresh-first x l t h e m)
in_rest x h l r t m (inr n) = n

pub set-rearranged : (l r : List Held) → two_alike l ≡ false → two_alike r ≡ false → OneSet l r → Rearranged l r
set-rearranged [] [] t u s = Rearranged.none
set-rearranged [] (y ∷ r) t u s = absurd ((s y).1 (inl refl))
set-rearranged (x ∷ l) r t u s =
    let w = to-front-of x r ((s x).0 (inl refl)) in
    let m : List Held = w.0 in
    let v : two_alike (x ∷ m) ≡ false = sym (two-rearranged w.1) ∙ u in
    let rest : OneSet l m =
    λ h. (
      λ i. in_rest x h l m t i (member-rearranged h w.1 ((s h).0 (inr i))),
      λ i. in_rest x h m l v i ((s h).1 (member-rearranged h (rearranged-sym w.1) (inr i))),
    ) in
    Rearranged.next (Rearranged.keep (set-rearranged l m (rest-apart x l t) (rest-apart x m v) rest)) (rearranged-sym w.1)

module _ (b c : Book) where
  -- equal records hold one set
  pub same_set : Same b c → OneSet b.held c.held
  same_set s = λ h. (λ m. member-rearranged h s.held m, λ m. member-rearranged h (rearranged-sym s.held) m)

  -- records that are not spoiled, with one clock, the same states and one set held, are equal
  pub set_same : spoiled b ≡ false → spoiled c ≡ false → b.now ≡ c.now → b.apps ≡ c.apps → OneSet b.held c.held → Same b c
  unfolding spoiled_by
  set_same s t n a h =
      record {
        over =
            or_left b.over (any_of (wrong b.now) b.held || two_alike b.held) s
            ∙ sym (or_left c.over (any_of (wrong c.now) c.held || two_alike c.held) t);
        now = n;
        apps = a;
        held = set-rearranged b.held c.held (sound-distinct b s) (sound-distinct c t) h;
      }
