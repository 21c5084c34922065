-- What a sound section is answered after a history, by the log alone.
--   offered-exactly
--   unsound-said       .. and a payload that is not sound, by its own number
use mathlib.Core.Path.{◌≡◌, sym, ap, subst, ◌∙◌}
use mathlib.Core.Bool.{true, false}
use mathlib.Core.Logic.{◌↔◌, ⊎_elim, inl, inr}
use mathlib.Core.List.{List}
use Prim.Native.Nat.{ℕ, ◌<◌, ◌≤◌}
use native.Mathlib.Omega.{arith}
use lib.Dec.{eqb}
use lib.ListN.{length}
use borrow.Author.Tests.{eq-eqb, ne_eqb, eqb-true}
use Rattle.std.specs.Prelude.{Result, Ok, Err}
use Rattle.refusal.specs.Refusal as refusal
use Rattle.refusal.specs.declared.Refusal.{Refusal}
use Rattle.refusal.specs.declared.Refusal.TheVariants.{NoFreePlace}
use Rattle.refusal.proofs.Numbers.{once}
use Rattle.base.specs.Bytes.{same}
use Rattle.base.proofs.Cases.{by, same_or, unlike}
use Rattle.base.proofs.Same.{same_refl, same-equal}
use Rattle.section.specs.Section.{read_of, header_of, version, section_number, last_section_number}
use Rattle.section.proofs.Laws.{sound-facts}
use Rattle.berth.specs.Berth.{sections, places, store_size, standing}
use Rattle.shelf.specs.Record.{place_at, length_at, holds, place_of, free_of}
use Rattle.key.specs.declared.Key.{Key}
use Rattle.shelf_offer.specs.Offer.{After, new_of, held_of, sound_of, offer_of}
use Rattle.shelf_offer.specs.declared.Offered.{Offered}
use Rattle.shelf_laws.specs.State.{State, offer_to}
use Rattle.shelf_laws.specs.Named.{key_in}
use Rattle.shelf_laws.specs.History.{Call, Entry, after_all, log_of}
use Rattle.shelf_laws.specs.Log.{held_by, since, version_since, last_since, bytes_since}
use Rattle.shelf_laws.specs.Offers.{Joins, NoPlace, Differs, Says}
use Rattle.shelf_laws.specs.Laws.{OfferedExactly}
use Rattle.shelf_laws.proofs.Kept.{Good, Kept}
use Rattle.shelf_laws.proofs.Offering.{HeardOf, Reason, Goes, goes}
use Rattle.shelf_laws.proofs.Histories.{logged_table, holds-all}
use Rattle.shelf_laws.proofs.Held.{held_place, unheld-place, place-held, place-unheld}
use Rattle.shelf_laws.proofs.Full.{none-full, full-none}

unequal : (a b : List ℕ) → ¬ (a ≡ b) → same a b ≡ false
unequal a b ne = by (same a b) (λ t. absurd (ne (same-equal a b t))) (λ t. t)

module _ (h : List Call) (payload : List ℕ) (sound : read_of payload ≡ Ok (header_of payload)) where
  abbrev s : State
  s = after_all h

  abbrev log : List Entry
  log = log_of h

  abbrev key : Key
  key = key_in payload

  abbrev number : ℕ
  number = section_number payload

  good : Good s
  good = (holds-all h).good

  number-16 : number < sections
  number-16 =
      let f = sound-facts payload (header_of payload) sound in
      let n : section_number payload ≤ last_section_number payload = f.number in
      let l : last_section_number payload ≤ 15 = f.last in
      omega arith

  -- what is kept of its table, in the place that it has
  module _ (p : ℕ) (k : Kept s key p (logged_table key log)) where
    has-number : holds (place_at s.shelf p) number ≡ since key log number
    has-number = k.numbers number number-16

    its-bytes : since key log number ≡ true → standing s.store p number (length_at (place_at s.shelf p) number) ≡ bytes_since key log number
    its-bytes t = ap (standing s.store p number) (k.lengths number number-16 t) ∙ k.stands number number-16 t

  -- the log says what was answered
  module _ (p : ℕ) (a : HeardOf s payload p) where
    place : place_of s.shelf key < places
    place = rw a.place a.taken

    held : held_by key log ≡ true
    held = place-held h key place

    kept : Kept s key p (logged_table key log)
    kept = subst (λ q. Kept s key q (logged_table key log)) a.place (((holds-all h).table key).kept place)

    joins : (place_at s.shelf p).version ≡ version payload → (place_at s.shelf p).last ≡ last_section_number payload → Joins key payload log
    joins v l = record { held = held; version = sym kept.version ∙ v; last = sym kept.last ∙ l }

  says-refused : {r : Refusal} → Reason s payload r → Says key payload log (Err r)
  says-refused (Reason.17-store l) = absurd (l good.lent)
  says-refused (Reason.18-spoiled _ e) = absurd (unlike (sym e ∙ good.unspoiled))
  says-refused (Reason.unsound r _ _ e) = absurd cc
  says-refused (Reason.9-full _ e f) = (place-unheld h key e, none-full h f)
  says-refused (Reason.10-last p a v l) = (held p a, sym (kept p a).version ∙ v, inl (λ z. l ((kept p a).last ∙ z)))
  says-refused (Reason.10-differs p a v l n b) =
      let t : since key log number ≡ true = sym (has-number p (kept p a)) ∙ n in
      (held p a, sym (kept p a).version ∙ v, inr (t, λ z. b (its-bytes p (kept p a) t ∙ z)))

  says : {r : After} → Goes s payload r → Says key payload log r.said
  says (Goes.refuses r y) = says-refused y
  says (Goes.began _ e f) = (place-unheld h key e, λ full. let z : free_of s.shelf ≡ places = full-none h full in omega arith)
  says (Goes.began_again p a v) = (held p a, λ z. v ((kept p a).version ∙ z))
  says (Goes.added p a v l n) = (joins p a v l, sym (has-number p (kept p a)) ∙ n)
  says (Goes.repeats p a v l n b) =
      let t : since key log number ≡ true = sym (has-number p (kept p a)) ∙ n in
      (joins p a v l, t, sym (its-bytes p (kept p a) t) ∙ b)

  -- and is answered what the log says
  said-new : held_by key log ≡ false → (offer_to s payload).said ≡ (new_of s.shelf s.store payload (header_of payload)).said
  unfolding offer_of sound_of
  said-new u = rw (eq-eqb (length s.store) store_size good.lent, good.unspoiled, sound, unheld-place h key u)

  said-held : held_by key log ≡ true → (offer_to s payload).said ≡ (held_of s.shelf s.store payload (place_of s.shelf key) (header_of payload)).said
  unfolding offer_of sound_of
  said-held t =
      let i : place_of s.shelf key < places = held_place h key t in
      rw (eq-eqb (length s.store) store_size good.lent, good.unspoiled, sound, ne_eqb (place_of s.shelf key) places (λ e. omega arith))

  -- its table is held, with the section's version
  module _ (t : held_by key log ≡ true) (v : version_since key log ≡ version payload) where
    abbrev here : ℕ
    here = place_of s.shelf key

    is-kept : Kept s key here (logged_table key log)
    is-kept = ((holds-all h).table key).kept (held_place h key t)

    same_version : eqb (place_at s.shelf here).version (version payload) ≡ true
    same_version = eq-eqb _ _ (is-kept.version ∙ v)

    module _ (l : last_since key log ≡ last_section_number payload) where
      same-last : eqb (place_at s.shelf here).last (last_section_number payload) ≡ true
      same-last = eq-eqb _ _ (is-kept.last ∙ l)

      said-added : since key log number ≡ false → (offer_to s payload).said ≡ Ok Offered.Added
      unfolding held_of
      said-added n = said-held t ∙ rw (same_version, same-last, has-number here is-kept ∙ n)

      module _ (n : since key log number ≡ true) where
        said-repeat : bytes_since key log number ≡ payload → (offer_to s payload).said ≡ Ok Offered.Repeat
        unfolding held_of
        said-repeat b =
            said-held t
            ∙ rw (same_version, same-last, has-number here is-kept ∙ n, its-bytes here is-kept n, b, same_refl payload)

        said-differs : ¬ (bytes_since key log number ≡ payload) → (offer_to s payload).said ≡ Err Refusal.Differs
        unfolding held_of
        said-differs b =
            said-held t
            ∙ rw (same_version, same-last, has-number here is-kept ∙ n, its-bytes here is-kept n, unequal _ _ b)

    said-last : ¬ (last_since key log ≡ last_section_number payload) → (offer_to s payload).said ≡ Err Refusal.Differs
    unfolding held_of
    said-last l = said-held t ∙ rw (same_version, ne_eqb _ _ (λ z. l (sym is-kept.last ∙ z)))

    said-other : since key log number ≡ true → ¬ (bytes_since key log number ≡ payload) → (offer_to s payload).said ≡ Err Refusal.Differs
    said-other n b = ⊎_elim (λ l. said-differs l n b) said-last (same_or (last_since key log) (last_section_number payload))

  said-again : held_by key log ≡ true → ¬ (version_since key log ≡ version payload) → (offer_to s payload).said ≡ Ok Offered.BeganAgain
  unfolding held_of
  said-again t v = said-held t ∙ rw (ne_eqb _ _ (λ z. v (sym (((holds-all h).table key).kept (held_place h key t)).version ∙ z)))

  said-so : (a : Result Offered Refusal) → Says key payload log a → (offer_to s payload).said ≡ a
  unfolding new_of
  said-so (Ok Offered.Began) w =
      said-new w.0 ∙ rw (ne_eqb (free_of s.shelf) places (λ e. w.1 (none-full h e)))
  said-so (Ok Offered.BeganAgain) w = said-again w.0 w.1
  said-so (Ok Offered.Added) w = said-added w.0.held w.0.version w.0.last w.1
  said-so (Ok Offered.Repeat) w = said-repeat w.0.held w.0.version w.0.last w.1 w.2
  said-so (Err r) w =
      by (eqb (refusal.number r) 9)
      (λ e.
      let full : NoPlace key payload log = rw e at w in
      said-new full.0 ∙ rw (full-none h full.1) (ap Err (once NoFreePlace r (sym (eqb-true _ _ e)))))
      (λ e.
      by (eqb (refusal.number r) 10)
      (λ f.
      let d : Differs key payload log = rw (e, f) at w in
      ⊎_elim (said-last d.0 d.1) (λ x. said-other d.0 d.1 x.0 x.1) d.2 ∙ ap Err (once Refusal.Differs r (sym (eqb-true _ _ f))))
      (λ f. absurd (rw (e, f) at w)))

pub unsound-said : (h : List Call) (payload : List ℕ) (r : Refusal) → read_of payload ≡ Err r → (offer_to (after_all h) payload).said ≡ Err r
unfolding offer_of
unsound-said h payload r e =
    rw (eq-eqb (length (after_all h).store) store_size (holds-all h).good.lent, (holds-all h).good.unspoiled, e)

pub offered-exactly : OfferedExactly
offered-exactly h _ payload of a =
    subst (λ k. ((offer_to (after_all h) payload).said ≡ a) ↔ Says k payload (log_of h) a) of.its_key
    (λ e. subst (Says (key_in payload) payload (log_of h)) e (says h payload of.sound (goes (after_all h) payload)), said-so h payload of.sound a)
