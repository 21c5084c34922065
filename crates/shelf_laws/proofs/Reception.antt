-- More reception takes nothing away.
--   heard            a sound section of the table with that number stands in a log
--   Fed              an undisturbed table is held with just the sections that were heard, or none was heard
--   fed-step         one call that leaves the table undisturbed keeps it so
--   fed-all          it is so after every history that leaves the table undisturbed
--   offered-heard    a section that is offered in a history is heard in its log
--   more-reception   what the first history hands out the second hands out, with the same bytes, and it calls the table complete
--                    if the first does
use mathlib.Core.Path.{◌≡◌, refl, sym, ap, subst, ◌∙◌}
use mathlib.Core.Bool.{Bool, true, false, ◌&&◌, ◌||◌}
use mathlib.Core.Logic.{◌⊎◌, ⊎_elim, inl, inr}
use mathlib.Core.List.Memᴰ
use mathlib.Core.List.{List, [], ◌∷◌, Memᴰ}
use Prim.Native.Nat.{ℕ, ◌+◌, ◌<◌}
use native.Mathlib.Omega.{arith}
use lib.Dec.{eqb, ltb}
use lib.ListN.{length}
use borrow.Author.Tests.{eqb-true, eq-eqb, ltb-true, ltb-false}
use Rattle.std.specs.Prelude.{Result, Ok, Err}
use Rattle.std.proofs.Math.Bool.{or-false, or-true, and-true, and-false}
use Rattle.refusal.specs.Refusal.{number, number_of}
use Rattle.refusal.specs.declared.Refusal.{Refusal}
use Rattle.refusal.specs.declared.Refusal.TheVariants.{NoFreePlace, TableNotHeld}
use Rattle.refusal.proofs.Numbers.{in_byte}
use Rattle.base.specs.Below.{every}
use Rattle.base.proofs.Cases.{by, unlike, and_left, and_right}
use Rattle.base.proofs.Below.{every-all, every-each}
use Rattle.section.specs.Section.{read_of, header_of, version, section_number, last_section_number}
use Rattle.section.specs.declared.Header.{Header}
use Rattle.section.proofs.Laws.{sound-facts}
use Rattle.berth.specs.Berth.{sections, places, standing}
use Rattle.shelf.specs.Record.{place_at, place_of}
use Rattle.key.specs.Key.{same_key}
use Rattle.key.specs.declared.Key.{Key}
use Rattle.shelf_offer.specs.Offer as Offer
use Rattle.shelf_ask.specs.Ask.{copy}
use Rattle.shelf_laws.specs.State.{State, offer_to, load_on, release_from}
use Rattle.shelf_laws.specs.Named.{key_in}
use Rattle.shelf_laws.specs.Answers.{begins, joins, accepted, is_done, frees}
use Rattle.shelf_laws.specs.History.{Call, Entry, offered, loaded, released, asked, entry, step, after, logged, start, after_all, log_of, copy_after, whole_after, Each}
use Rattle.shelf_laws.specs.Log.{loads}
use Rattle.shelf_laws.specs.Reception.{SectionOf, OfferedIn, Fits, Undisturbed}
use Rattle.shelf_laws.specs.Laws.{MoreReception}
use Rattle.key.proofs.Keys.{same_key_lem, key-itself}
use Rattle.shelf_laws.proofs.Offering.{Reason, Goes, goes, number-16}
use Rattle.shelf_laws.proofs.Kept.{Good, Table, Kept, kept-as, kept_for, Alike, alike-itself, alike-kept}
use Rattle.shelf_laws.proofs.Offered.{offer-apart, offer-begins, offer-joins, accepted-heard}
use Rattle.shelf_laws.proofs.Released.{release-apart}
use Rattle.shelf_laws.proofs.Loaded.{load_apart}
use Rattle.shelf_laws.proofs.Asked.{kept-copied, kept-16, kept-15, kept_whole, above-16, unheld-copied, unheld-whole}
use Rattle.shelf_laws.proofs.Histories.{Holds, holds-all, step-holds, start-holds, fresh-unheld}
use Rattle.shelf_laws.proofs.Complete.{answered}

-- whether a payload is a sound section of the table with that key
abbrev pub is_section : Key → List ℕ → Bool
is_section key payload = eqb (number_of (read_of payload)) 0 && same_key (key_in payload) key

read-sound : (payload : List ℕ) → number_of (read_of payload) ≡ 0 → read_of payload ≡ Ok (header_of payload)
read-sound payload e = go (read_of payload) refl
  where
    go : (r : Result Header Refusal) → read_of payload ≡ r → read_of payload ≡ Ok (header_of payload)
    go (Ok h) q = q ∙ ap Ok (sound-facts payload h q).header
    go (Err r) q =
        let b : 0 < number r = (in_byte r).0 in
        let z : number r ≡ 0 = sym (ap number_of q) ∙ e in
        absurd (omega arith)

module _ (key : Key) (payload : List ℕ) where
  is-section : is_section key payload ≡ true → SectionOf key payload
  is-section e =
      record {
        sound = read-sound payload (eqb-true _ _ (and_left (eqb (number_of (read_of payload)) 0) _ e));
        its_key = same_key_lem _ _ (and_right (eqb (number_of (read_of payload)) 0) _ e);
      }

  pub section-is : SectionOf key payload → is_section key payload ≡ true
  section-is s = rw s.sound (ap (λ k. same_key k key) s.its_key ∙ key-itself key)

module _ (key : Key) where
  abbrev pub heard_in : Entry → ℕ → Bool
  heard_in (offered payload said) n = is_section key payload && eqb n (section_number payload)
  heard_in (loaded file said) n = false
  heard_in (released k said) n = false
  heard_in (asked question said) n = false

  abbrev pub heard : List Entry → ℕ → Bool
  heard [] n = false
  heard (e ∷ log) n = heard_in e n || heard log n

-- one offer of a sound section, to a shelf that is good
module _ (s : State) (g : Good s) (payload : List ℕ) (sound : read_of payload ≡ Ok (header_of payload)) where
  read-not : (r : Refusal) → read_of payload ≡ Err r → ⊥
  read-not r e = cc

  -- where the table is not held and there is room, the section begins it
  module _ (unheld : place_of s.shelf (key_in payload) ≡ places) where
    nowhere : (p : ℕ) → place_of s.shelf (key_in payload) ≡ p → p < places → ⊥
    nowhere p e i = let z : p ≡ places = sym e ∙ unheld in omega arith

    only-full : {r : Refusal} → Reason s payload r → r ≡ NoFreePlace
    only-full (Reason.17-store e) = absurd (e g.lent)
    only-full (Reason.18-spoiled _ e) = absurd (unlike (sym e ∙ g.unspoiled))
    only-full (Reason.unsound r _ _ e) = absurd (read-not r e)
    only-full (Reason.9-full _ _ _) = refl
    only-full (Reason.10-last p a _ _) = absurd (nowhere p a.place a.taken)
    only-full (Reason.10-differs p a _ _ _ _) = absurd (nowhere p a.place a.taken)

    begins-goes : {r : Offer.After} → Goes s payload r → (r.said ≡ Err NoFreePlace → ⊥) → begins r.said ≡ true
    begins-goes (Goes.refuses r y) room = absurd (room (ap Err (only-full y)))
    begins-goes (Goes.began _ _ _) room = refl
    begins-goes (Goes.began_again _ _ _) room = refl
    begins-goes (Goes.added p a _ _ _) room = absurd (nowhere p a.place a.taken)
    begins-goes (Goes.repeats p a _ _ _ _) room = absurd (nowhere p a.place a.taken)

  -- where the table is held with this version, this last number and these bytes, the section joins it
  module _ (p : ℕ) (t : Table) (k : Kept s (key_in payload) p t)
      (same_version : version payload ≡ t.version) (same-last : last_section_number payload ≡ t.last) (same_bytes : payload ≡ t.bytes (section_number payload)) where
    not-unheld : place_of s.shelf (key_in payload) ≡ places → ⊥
    not-unheld q = let z : p ≡ places = sym k.place ∙ q in let i : p < places = k.taken in omega arith

    never-refused : {r : Refusal} → Reason s payload r → ⊥
    never-refused (Reason.17-store e) = e g.lent
    never-refused (Reason.18-spoiled _ e) = unlike (sym e ∙ g.unspoiled)
    never-refused (Reason.unsound r _ _ e) = read-not r e
    never-refused (Reason.9-full _ q _) = not-unheld q
    never-refused (Reason.10-last q a _ ne) = ne (ap (λ x. (place_at s.shelf x).last) (sym a.place ∙ k.place) ∙ k.last ∙ sym same-last)
    never-refused (Reason.10-differs q a _ _ n ne) =
        let z : q ≡ p = sym a.place ∙ k.place in
        let i : section_number payload < sections = number-16 s payload a.heard in
        let h : t.has (section_number payload) ≡ true = sym (k.numbers (section_number payload) i) ∙ rw z at n in
        ne
        (rw z
        (ap (standing s.store p (section_number payload)) (k.lengths (section_number payload) i h)
        ∙ k.stands (section_number payload) i h ∙ sym same_bytes))

    joins-goes : {r : Offer.After} → Goes s payload r → joins r.said ≡ true
    joins-goes (Goes.refuses n y) = absurd (never-refused y)
    joins-goes (Goes.began _ q _) = absurd (not-unheld q)
    joins-goes (Goes.began_again q a ne) =
        absurd (ne (ap (λ x. (place_at s.shelf x).version) (sym a.place ∙ k.place) ∙ k.version ∙ sym same_version))
    joins-goes (Goes.added _ _ _ _ _) = refl
    joins-goes (Goes.repeats _ _ _ _ _ _) = refl

module _ (key : Key) (v l : ℕ) (f : ℕ → List ℕ) where
  -- the table with the sections that were heard
  abbrev pub heard_table : List Entry → Table
  heard_table log = record { version = v; last = l; has = heard key log; bytes = f }

  pub data Fed (s : State) (log : List Entry) : Type 0 where
    unheard : place_of s.shelf key ≡ places → ((n : ℕ) → heard key log n ≡ false) → Fed s log
    held : (p : ℕ) → Kept s key p (heard_table log) → Fed s log

  module _ (s : State) (log : List Entry) (g : Good s) where
    -- an entry with no section of the table, and a shelf that leaves the table alone
    unmoved : (t : State) (e : Entry) → Alike s t key → ((n : ℕ) → heard_in key e n ≡ false) → Fed s log → Fed t (e ∷ log)
    unmoved t e a none (Fed.unheard q n) = Fed.unheard (a.place ∙ q) (λ m. rw (none m) (n m))
    unmoved t e a none (Fed.held p k) =
        Fed.held p (kept-as t (alike-kept s t key a g k) refl refl refl (λ n. rw (none n)) (λ n _. refl))

    -- a section of the table
    module _ (payload : List ℕ) (is : SectionOf key payload) (fits : Fits v l f payload (offer_to s payload).said) where
      abbrev next : State
      next = step s (Call.offer payload)

      fed-section : Fed s log → Fed next (entry s (Call.offer payload) ∷ log)
      fed-section (Fed.unheard q none) =
          let b = begins-goes s g payload is.sound (ap (place_of s.shelf) is.its_key ∙ q) (goes s payload) fits.room in
          let t : is_section key payload ≡ true = section-is key payload is in
          Fed.held _
          (kept-as next (kept_for next (offer-begins s payload g b) is.its_key) refl fits.version fits.last
          (λ n. rw (t, none n) (sym (or-false (eqb n (section_number payload)))))
          (λ n e. fits.bytes ∙ ap f (sym (eqb-true n (section_number payload) e))))
      fed-section (Fed.held p k) =
          let mine = kept_for s k (sym is.its_key) in
          let j = joins-goes s g payload is.sound p (heard_table log) mine fits.version fits.last fits.bytes (goes s payload) in
          let t : is_section key payload ≡ true = section-is key payload is in
          Fed.held p
          (kept-as next (kept_for next (offer-joins s payload g p mine j) is.its_key) refl refl refl
          (λ n. rw t)
          (λ n _. by (eqb n (section_number payload)) (λ e. rw e (fits.bytes ∙ ap f (sym (eqb-true n (section_number payload) e)))) (λ e. rw e)))

    -- what is not a sound section of the table is not accepted for it
    not-accepted : (payload : List ℕ) → is_section key payload ≡ false → (same_key (key_in payload) key && accepted (offer_to s payload).said) ≡ false
    not-accepted payload t =
        by (accepted (offer_to s payload).said)
        (λ a.
        let n : same_key (key_in payload) key ≡ false = rw (accepted-heard s payload a).reads at t in
        rw a (and-true (same_key (key_in payload) key) ∙ n))
        (λ a. rw a (and-false (same_key (key_in payload) key)))

    not-loaded : (file : List ℕ) (said : Result (Unit {0}) Refusal) → (loads key file ≡ true → said ≡ Ok tt → ⊥) → (loads key file && is_done said) ≡ false
    not-loaded file (Ok done) u = by (loads key file) (λ t. absurd (u t refl)) (λ t. rw t)
    not-loaded file (Err r) u = and-false (loads key file)

    not-freed : (gone : Key) (said : Result (Unit {0}) Refusal) → (gone ≡ key → said ≡ Ok tt → ⊥) → (same_key gone key && frees said) ≡ false
    not-freed gone (Ok done) u = by (same_key gone key) (λ t. absurd (u (same_key_lem gone key t) refl)) (λ t. rw t)
    not-freed gone (Err r) u = and-false (same_key gone key)

    pub fed-step : Fed s log → (c : Call) → Undisturbed key v l f (entry s c) → Fed (step s c) (entry s c ∷ log)
    fed-step fed (Call.offer payload) u =
        by (is_section key payload)
        (λ t. fed-section payload (is-section key payload t) (u (is-section key payload t)) fed)
        (λ t.
        unmoved (step s (Call.offer payload)) (entry s (Call.offer payload)) (offer-apart s payload g key (not-accepted payload t)) (λ n. rw t) fed)
    fed-step fed (Call.load file) u =
        unmoved (step s (Call.load file)) (entry s (Call.load file)) (load_apart s file g key (not-loaded file (load_on s file).said u)) (λ n. refl) fed
    fed-step fed (Call.release gone) u =
        unmoved (step s (Call.release gone)) (entry s (Call.release gone))
        (release-apart s gone g key (not-freed gone (release_from s gone).said u)) (λ n. refl) fed
    fed-step fed (Call.ask question) u = unmoved s (entry s (Call.ask question)) (alike-itself s key) (λ n. refl) fed

  -- what is so of a log is so of the older one in it
  older : (s : State) (log : List Entry) (cs : List Call) → Each (Undisturbed key v l f) (logged s log cs) → Each (Undisturbed key v l f) log
  older s log [] u = u
  older s log (c ∷ cs) u = (older (step s c) (entry s c ∷ log) cs u).1

  fed-from : (s : State) (log : List Entry) → Holds s log → Fed s log → (cs : List Call) → Each (Undisturbed key v l f) (logged s log cs)
      → Fed (after s cs) (logged s log cs)
  fed-from s log h fed [] u = fed
  fed-from s log h fed (c ∷ cs) u =
      fed-from (step s c) (entry s c ∷ log) (step-holds s log h c) (fed-step s log h.good fed c (older (step s c) (entry s c ∷ log) cs u).0) cs u

  pub fed-all : (h : List Call) → Each (Undisturbed key v l f) (log_of h) → Fed (after_all h) (log_of h)
  fed-all h u = fed-from start [] start-holds (Fed.unheard (fresh-unheld key) (λ n. refl)) h u

-- a section that is offered in a history is heard in its log, and only such a section is
module _ (key : Key) where
  still-heard : (s : State) (log : List Entry) (cs : List Call) (n : ℕ) → heard key log n ≡ true → heard key (logged s log cs) n ≡ true
  still-heard s log [] n t = t
  still-heard s log (c ∷ cs) n t = still-heard (step s c) (entry s c ∷ log) cs n (rw t (or-true (heard_in key (entry s c) n)))

  pub offered-heard : (s : State) (log : List Entry) (cs : List Call) (payload : List ℕ) → SectionOf key payload → OfferedIn cs payload
      → heard key (logged s log cs) (section_number payload) ≡ true
  offered-heard s log [] payload is m = absurd (Memᴰ.not-nil m)
  offered-heard s log (c ∷ cs) payload is m =
      ⊎_elim
      (λ e.
      still-heard (step s c) (entry s c ∷ log) cs (section_number payload)
      (subst (λ x. heard key (entry s x ∷ log) (section_number payload) ≡ true) e
      (rw (section-is key payload is, eq-eqb (section_number payload) (section_number payload) refl))))
      (λ m. offered-heard (step s c) (entry s c ∷ log) cs payload is m)
      (Memᴰ.cases_cons m)

  -- a sound section of the table with that number, offered in the history
  abbrev Hears : List Call → ℕ → Type 0
  Hears cs n = (payload : List ℕ) × SectionOf key payload × OfferedIn cs payload × (section_number payload ≡ n)

  heard-call : (s : State) (c : Call) (n : ℕ) → heard_in key (entry s c) n ≡ true
      → (payload : List ℕ) × SectionOf key payload × (Call.offer payload ≡ c) × (section_number payload ≡ n)
  heard-call s (Call.offer payload) n t = (
    payload,
    is-section key payload (and_left (is_section key payload) _ t),
    refl,
    sym (eqb-true n (section_number payload) (and_right (is_section key payload) _ t)),
  )
  heard-call s (Call.load file) n t = absurd (unlike (sym t))
  heard-call s (Call.release gone) n t = absurd (unlike (sym t))
  heard-call s (Call.ask question) n t = absurd (unlike (sym t))

  heard-offered : (s : State) (log : List Entry) (cs : List Call) (n : ℕ) → heard key (logged s log cs) n ≡ true → (heard key log n ≡ true) ⊎ Hears cs n
  heard-offered s log [] n t = inl t
  heard-offered s log (c ∷ cs) n t =
      ⊎_elim
      (λ a.
      by (heard_in key (entry s c) n)
      (λ b. let w = heard-call s c n b in inr (w.0, w.1, Memᴰ.head w.2, w.3))
      (λ b. inl (rw b at a)))
      (λ w. inr (w.0, w.1, Memᴰ.tail w.2, w.3))
      (heard-offered (step s c) (entry s c ∷ log) cs n t)

module _ (key : Key) (v l : ℕ) (f : ℕ → List ℕ) (h k : List Call)
    (first : Each (Undisturbed key v l f) (log_of h)) (second : Each (Undisturbed key v l f) (log_of k))
    (offers : (payload : List ℕ) → SectionOf key payload → OfferedIn h payload → OfferedIn k payload) where
  -- the second hears what the first does
  hears-too : (n : ℕ) → heard key (log_of h) n ≡ true → heard key (log_of k) n ≡ true
  hears-too n t =
      ⊎_elim
      (λ e. absurd (unlike (sym e)))
      (λ w. subst (λ m. heard key (log_of k) m ≡ true) w.3 (offered-heard key start [] k w.0 w.1 (offers w.0 w.1 w.2)))
      (heard-offered key start [] h n t)

  -- and then holds the table
  holds-too : (n : ℕ) → heard key (log_of h) n ≡ true → (p : ℕ) × Kept (after_all k) key p (heard_table key v l f (log_of k))
  holds-too n t = go (fed-all key v l f k second)
    where
      go : Fed key v l f (after_all k) (log_of k) → (p : ℕ) × Kept (after_all k) key p (heard_table key v l f (log_of k))
      go (Fed.unheard _ none) = absurd (unlike (sym (hears-too n t) ∙ none n))
      go (Fed.held p kept) = (p, kept)

  good : (h : List Call) → Good (after_all h)
  good h = (holds-all h).good

  hands-out-too : (n : ℕ) (out : List ℕ) → number_of (copy_after h key n out).said ≡ 0 → copy_after k key n out ≡ copy_after h key n out
  hands-out-too n out e = go (fed-all key v l f h first)
    where
      refused : {r : Refusal} → copy_after h key n out ≡ copy (Err r) out → copy_after k key n out ≡ copy_after h key n out
      refused {r} q =
          let b : 0 < number r = (in_byte r).0 in
          let z : number r ≡ 0 = sym (ap (λ c. number_of c.said) q) ∙ e in
          absurd (omega arith)

      go : Fed key v l f (after_all h) (log_of h) → copy_after k key n out ≡ copy_after h key n out
      go (Fed.unheard q _) = refused (unheld-copied (after_all h) (good h) key q n out)
      go (Fed.held p kept) =
          by (ltb n sections)
          (λ a.
          let i : n < sections = ltb-true _ _ a in
          by (heard key (log_of h) n)
          (λ t.
          by (ltb (length out) (length (f n)))
          (λ b. refused (kept-15 (after_all h) (good h) key kept n i t out (ltb-true _ _ b)))
          (λ b.
          kept-copied (after_all k) (good k) key (holds-too n t).1 n i (hears-too n t) out (ltb-false _ _ b)
          ∙ sym (kept-copied (after_all h) (good h) key kept n i t out (ltb-false _ _ b))))
          (λ t. refused (kept-16 (after_all h) (good h) key kept n (kept.numbers n i ∙ t) out)))
          (λ a.
          refused (kept-16 (after_all h) (good h) key kept n (above-16 (after_all h) (good h) key p n kept.taken (ltb-false _ _ a)) out))

  completes-too : whole_after h key ≡ Ok true → whole_after k key ≡ Ok true
  completes-too e = go (fed-all key v l f h first)
    where
      go : Fed key v l f (after_all h) (log_of h) → whole_after k key ≡ Ok true
      go (Fed.unheard q _) =
          let w : ◌≡◌ {A = Result Bool Refusal} (Err TableNotHeld) (Ok true) = sym (unheld-whole (after_all h) (good h) key q) ∙ e in
          cc
      go (Fed.held p kept) =
          let all : every (l + 1) (heard key (log_of h)) ≡ true = answered _ (sym (kept_whole (after_all h) (good h) key kept) ∙ e) in
          let each : (n : ℕ) → n < l + 1 → heard key (log_of h) n ≡ true = λ n i. every-each (heard key (log_of h)) (l + 1) n i all in
          kept_whole (after_all k) (good k) key (holds-too 0 (each 0 (omega arith))).1
          ∙ rw (every-all (heard key (log_of k)) (l + 1) (λ n i. hears-too n (each n i)))

pub more-reception : MoreReception
more-reception key v l f h k first second offers = (hands-out-too key v l f h k first second offers, completes-too key v l f h k first second offers)
