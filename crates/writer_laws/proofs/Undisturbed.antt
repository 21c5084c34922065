-- Offers of one body's sections to a fresh shelf leave the table undisturbed: none meets a full shelf.
--   undisturbed
use mathlib.Core.Path.{◌≡◌, refl, sym, ap, ◌∙◌}
use mathlib.Core.Bool.{true}
use mathlib.Core.List.{List, [], ◌∷◌, Memᴰ}
use Prim.Native.Nat.{ℕ, ◌<◌, ◌≤◌}
use native.Mathlib.Omega.{arith}
use lib.ListN.{length}
use borrow.Author.Tests.{eq-eqb}
use Rattle.std.specs.Prelude.{Ok, Err}
use Rattle.refusal.specs.Refusal.{number, number_of}
use Rattle.refusal.specs.declared.Refusal.{Refusal}
use Rattle.refusal.specs.declared.Refusal.TheVariants.{NoFreePlace}
use Rattle.refusal.proofs.Numbers.{once}
use Rattle.base.specs.Below.{lowest}
use Rattle.base.proofs.Cases.{unlike}
use Rattle.section.specs.Section.{read_of, header_of, section_number}
use Rattle.berth.specs.Berth.{places}
use Rattle.shelf.specs.Record.{fresh, place_of, free_of}
use Rattle.key.specs.declared.Key.{Key}
use Rattle.shelf_offer.specs.Offer as Offer
use Rattle.shelf_laws.specs.State.{State}
use Rattle.shelf_laws.specs.Named.{key_in}
use Rattle.shelf_laws.specs.History.{Call, Entry, entry, step, logged, start, log_of, Each}
use Rattle.shelf_laws.specs.Reception.{Undisturbed}
use Rattle.shelf_laws.proofs.Offering.{Reason, Goes, goes}
use Rattle.shelf_laws.proofs.Histories.{Holds, step-holds, start-holds, fresh-unheld}
use Rattle.shelf_laws.proofs.Reception.{section-is, heard, Fed, fed-step}
use Rattle.writer.specs.Writer.{longest_body, last_of, written}
use Rattle.key.specs.Key.{nrt_it}
use Rattle.writer.specs.declared.Label.{Label}
use Rattle.writer_laws.specs.Offers.{label_key, offers_of}
use Rattle.writer_laws.proofs.Sections.{is-section, its-number, its-version, its-last}

-- where the table is not held, there is a free place
abbrev Room : State → Key → Type 0
Room s key = place_of s.shelf key ≡ places → free_of s.shelf ≡ places → ⊥

fresh-room : (key : Key) → Room start key
unfolding free_of lowest fresh
fresh-room key _ e = let z : ◌≡◌ {A = ℕ} 0 4 = e in omega arith

-- a sound section that has room is not refused 9
module _ (s : State) (payload : List ℕ) (sound : read_of payload ≡ Ok (header_of payload)) (room : Room s (key_in payload)) where
  read-9 : read_of payload ≡ Err NoFreePlace → ⊥
  read-9 e = cc

  not_full : (r : Refusal) → Reason s payload r → number r ≡ 9 → ⊥
  not_full _ (Reason.17-store _) e = omega arith
  not_full _ (Reason.18-spoiled _ _) e = omega arith
  not_full _ (Reason.unsound r _ _ q) e = read-9 (q ∙ ap Err (once r NoFreePlace e))
  not_full _ (Reason.9-full _ unheld full) e = room unheld full
  not_full _ (Reason.10-last _ _ _ _) e = omega arith
  not_full _ (Reason.10-differs _ _ _ _ _ _) e = omega arith

  not-9 : {r : Offer.After} → Goes s payload r → r.said ≡ Err NoFreePlace → ⊥
  not-9 (Goes.refuses r y) e = not_full r y (ap number_of e)
  not-9 (Goes.began _ _ _) e = let z : ◌≡◌ {A = ℕ} 0 9 = ap number_of e in omega arith
  not-9 (Goes.began_again _ _ _) e = let z : ◌≡◌ {A = ℕ} 0 9 = ap number_of e in omega arith
  not-9 (Goes.added _ _ _ _ _) e = let z : ◌≡◌ {A = ℕ} 0 9 = ap number_of e in omega arith
  not-9 (Goes.repeats _ _ _ _ _ _) e = let z : ◌≡◌ {A = ℕ} 0 9 = ap number_of e in omega arith

module _ (label : Label) (body : List ℕ) (other : ¬ (label.table ≡ nrt_it)) (five : label.version ≤ 31) (fits : length body ≤ longest_body) where
  abbrev key : Key
  key = label_key label

  abbrev last : ℕ
  last = last_of (length body)

  abbrev At : State → List Entry → Type 0
  At s log = Fed key label.version last (written label body) s log

  abbrev Calm : Entry → Type 0
  Calm = Undisturbed key label.version last (written label body)

  abbrev offering : ℕ → Call
  offering k = Call.offer (written label body k)

  -- one offer fits the table
  module _ (s : State) (log : List Entry) (room : Room s key) (k : ℕ) (known : k ≤ last) where
    calm : Calm (entry s (offering k))
    calm is =
        record {
          version = its-version label body other five fits k known;
          last = its-last label body other five fits k known;
          bytes = ap (written label body) (sym (its-number label body other five fits k known));
          room =
              not-9 s (written label body k) is.sound
              (λ unheld. room (ap (place_of s.shelf) (sym is.its_key) ∙ unheld))
              (goes s (written label body k));
        }

    -- and after it the table is held
    room_next : At (step s (offering k)) (entry s (offering k) ∷ log) → Room (step s (offering k)) key
    room_next (Fed.unheard _ none) =
        let n = section_number (written label body k) in
        let yes : heard key (entry s (offering k) ∷ log) n ≡ true =
        rw (section-is key (written label body k) (is-section label body other five fits k known), eq-eqb n n refl) in
        absurd (unlike (sym yes ∙ none n))
    room_next (Fed.held p kept) = λ unheld _.
        let z : p ≡ places = sym kept.place ∙ unheld in
        let i : p < places = kept.taken in
        omega arith

  undisturbed-from : (s : State) (log : List Entry) → Holds s log → At s log → Room s key → Each Calm log →
      (ks : List ℕ) → ((k : ℕ) → Memᴰ k ks → k ≤ last) → Each Calm (logged s log (offers_of label body ks))
  undisturbed-from s log holds fed room so [] known = so
  undisturbed-from s log holds fed room so (k ∷ ks) known =
      let i : k ≤ last = known k (Memᴰ.head refl) in
      let fits-it : Calm (entry s (offering k)) = calm s log room k i in
      let next : At (step s (offering k)) (entry s (offering k) ∷ log) =
      fed-step key label.version last (written label body) s log holds.good fed (offering k) fits-it in
      undisturbed-from (step s (offering k)) (entry s (offering k) ∷ log) (step-holds s log holds (offering k)) next
      (room_next s log room k i next) (fits-it, so) ks (λ j m. known j (Memᴰ.tail m))

  pub undisturbed : (ks : List ℕ) → ((k : ℕ) → Memᴰ k ks → k ≤ last) → Each Calm (log_of (offers_of label body ks))
  undisturbed = undisturbed-from start [] start-holds (Fed.unheard (fresh-unheld key) (λ n. refl)) (fresh-room key) tt
