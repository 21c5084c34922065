-- Over any history the shelf stays good, holds just the tables that the log says, and of each keeps what the log says.
--   Holds          what is so after a history
--   step-holds     one call keeps it so
--   fresh_holds    it is so of a fresh shelf, with any store of its size
--   holds-all      it is so after every history
use mathlib.Core.Path.{◌≡◌, refl, sym, ap, subst, ◌∙◌}
use mathlib.Core.Bool.{Bool, true, false, ◌&&◌}
use mathlib.Core.List.{List, [], ◌∷◌}
use Prim.Native.Nat.{ℕ, ◌<◌}
use native.Mathlib.Omega.{arith}
use lib.Dec.{eqb, ltb}
use lib.ListN.{length, get_or-replicate}
use borrow.Author.Tests.{lt-ltb}
use Rattle.std.specs.Prelude.{Result, Ok, Err}
use Rattle.std.proofs.Math.Bool.{or-false, and-false}
use Rattle.refusal.specs.declared.Refusal.{Refusal}
use Rattle.base.specs.Bytes.{zeros}
use Rattle.base.specs.Below.{some}
use Rattle.base.proofs.Cases.{by, unlike, and_left, and_right}
use Rattle.section.specs.Section.{section_number}
use Rattle.berth.specs.Berth.{places, store_size}
use Rattle.berth.proofs.Laid.{zeros-length}
use Rattle.shelf.specs.Record.{fresh, free_place, place_at, spoiled_place, spoiled_of, alike, has_key, place_of}
use Rattle.key.specs.Key.{same_key}
use Rattle.key.specs.declared.Key.{Key}
use Rattle.shelf_offer.specs.declared.Offered.{Offered}
use Rattle.shelf_laws.specs.State.{State, offer_to, load_on, release_from}
use Rattle.shelf_laws.specs.File.{carries}
use Rattle.shelf_laws.specs.Named.{key_in}
use Rattle.shelf_laws.specs.Answers.{begins, joins, accepted, is_done, frees}
use Rattle.shelf_laws.specs.History.{Call, Entry, entry, step, after, logged, start, after_all, log_of}
use Rattle.shelf_laws.specs.Log.{loads, beginning, accepting, releasing, held_by, since, version_since, last_since, bytes_since}
use Rattle.shelf_laws.proofs.Places.{has-not, not-held}
use Rattle.key.proofs.Keys.{same_key_lem, key-itself}
use Rattle.shelf_laws.proofs.Kept.{Good, Table, Kept, kept-as, Alike, alike-kept}
use Rattle.shelf_laws.proofs.Offered.{offer-good, offer-apart, offer-begins, offer-joins, joins-held}
use Rattle.shelf_laws.proofs.Released.{release-good, release-apart, release-done}
use Rattle.shelf_laws.proofs.Loaded.{load-good, load_apart, load-begins}
use Rattle.shelf_laws.proofs.HandedOut.{joins-else}

-- what the log says of the table with a key
abbrev pub logged_table : Key → List Entry → Table
logged_table key log =
    record { version = version_since key log; last = last_since key log; has = since key log; bytes = bytes_since key log }

-- the table is held exactly when the log says so, and then that is kept of it
pub record AsLogged (s : State) (log : List Entry) (key : Key) : Type 0 where
  pub held : held_by key log ≡ ltb (place_of s.shelf key) places
  pub kept : place_of s.shelf key < places → Kept s key (place_of s.shelf key) (logged_table key log)

pub record Holds (s : State) (log : List Entry) : Type 0 where
  pub good : Good s
  pub table : (key : Key) → AsLogged s log key

-- an entry that neither begins the table, nor releases it, nor accepts a section of it, and a shelf that leaves it alone
unmoved : (s : State) (log : List Entry) → Holds s log → (t : State) (e : Entry) (key : Key) → Alike s t key
    → ((n : ℕ) → accepting key n e ≡ false) → beginning key e ≡ false → releasing key e ≡ false → AsLogged t (e ∷ log) key
unmoved s log h t e key a no-section no-beginning no-release =
    record {
      held = rw (no-beginning, no-release, a.place) (h.table key).held;
      kept = λ i.
          let j : place_of s.shelf key < places = rw a.place at i in
          kept-as t (alike-kept s t key a h.good ((h.table key).kept j))
          (sym a.place)
          (rw no-beginning)
          (rw no-beginning)
          (λ n. rw (no-section n, no-beginning))
          (λ n _. rw (no-section n));
    }

-- a table that the log holds, kept at some place
settled : (t : State) (log : List Entry) (key : Key) {p : ℕ} {u : Table} → Kept t key p u → held_by key log ≡ true
    → u.version ≡ version_since key log → u.last ≡ last_since key log → ((n : ℕ) → u.has n ≡ since key log n)
    → ((n : ℕ) → u.has n ≡ true → u.bytes n ≡ bytes_since key log n) → AsLogged t log key
settled t log key k y v l h b =
    record {
      held = y ∙ sym (lt-ltb (place_of t.shelf key) places (rw k.place k.taken));
      kept = λ _. kept-as t k (sym k.place) v l h b;
    }

not-accepting : (k a b : Bool) → (k && a) ≡ false → (k && (a && b)) ≡ false
not-accepting true true b e = absurd (unlike e)
not-accepting true false b e = refl
not-accepting false a b e = refl

not-beginning : (a : Result Offered Refusal) (k : Bool) → (k && accepted a) ≡ false → (k && begins a) ≡ false
not-beginning (Ok Offered.Began) k e = e
not-beginning (Ok Offered.BeganAgain) k e = e
not-beginning (Ok Offered.Added) k e = and-false k
not-beginning (Ok Offered.Repeat) k e = and-false k
not-beginning (Err r) k e = e

module _ (s : State) (log : List Entry) (h : Holds s log) where
  module _ (payload : List ℕ) where
    abbrev offering : Call
    offering = Call.offer payload

    -- a section of the table is accepted
    accepts : accepted (offer_to s payload).said ≡ true → AsLogged (step s offering) (entry s offering ∷ log) (key_in payload)
    accepts a =
        let itself = key-itself (key_in payload) in
        by (begins (offer_to s payload).said)
        (λ b.
        settled (step s offering) (entry s offering ∷ log) (key_in payload) (offer-begins s payload h.good b)
        (rw (itself, b)) (rw (itself, b)) (rw (itself, b)) (λ n. rw (itself, a, b) (sym (or-false (eqb n (section_number payload))))) (λ n y. rw (itself, a, y)))
        (λ b.
        let j : joins (offer_to s payload).said ≡ true = joins-else (offer_to s payload).said a b in
        let was : place_of s.shelf (key_in payload) < places = joins-held s payload h.good j in
        settled (step s offering) (entry s offering ∷ log) (key_in payload)
        (offer-joins s payload h.good (place_of s.shelf (key_in payload)) ((h.table (key_in payload)).kept was) j)
        (rw (itself, b) ((h.table (key_in payload)).held ∙ lt-ltb (place_of s.shelf (key_in payload)) places was))
        (rw (itself, b)) (rw (itself, b)) (λ n. rw (itself, a, b)) (λ n _. rw (itself, a)))

    offered-kept : (key : Key) → AsLogged (step s offering) (entry s offering ∷ log) key
    offered-kept key =
        let said = (offer_to s payload).said in
        by (same_key (key_in payload) key && accepted (offer_to s payload).said)
        (λ t.
        subst (AsLogged (step s offering) (entry s offering ∷ log)) (same_key_lem (key_in payload) key (and_left (same_key (key_in payload) key) (accepted said) t))
        (accepts (and_right (same_key (key_in payload) key) (accepted said) t)))
        (λ f.
        unmoved s log h (step s offering) (entry s offering) key (offer-apart s payload h.good key f)
        (λ n. not-accepting (same_key (key_in payload) key) (accepted said) (eqb n (section_number payload)) f)
        (not-beginning said (same_key (key_in payload) key) f) refl)

  module _ (file : List ℕ) where
    abbrev loading : Call
    loading = Call.load file

    loaded-kept : (key : Key) → AsLogged (step s loading) (entry s loading ∷ log) key
    loaded-kept key =
        let done = is_done (load_on s file).said in
        by (loads key file && is_done (load_on s file).said)
        (λ t.
        let mine = and_left (loads key file) done t in
        let loaded = and_right (loads key file) done t in
        settled (step s loading) (entry s loading ∷ log) key (load-begins s file h.good key t)
        (rw (mine, loaded)) (rw (mine, loaded)) (rw (mine, loaded)) (λ n. rw (mine, loaded) (sym (or-false (carries file n)))) (λ n y. rw (mine, loaded, y)))
        (λ f.
        unmoved s log h (step s loading) (entry s loading) key (load_apart s file h.good key f)
        (λ n. not-accepting (loads key file) done (carries file n) f) f refl)

  module _ (gone : Key) where
    abbrev freeing : Call
    freeing = Call.release gone

    released-kept : (key : Key) → AsLogged (step s freeing) (entry s freeing ∷ log) key
    released-kept key =
        let freed = frees (release_from s gone).said in
        by (same_key gone key && frees (release_from s gone).said)
        (λ t.
        let z : gone ≡ key = same_key_lem gone key (and_left (same_key gone key) freed t) in
        let e : place_of (release_from s gone).shelf key ≡ places =
        ap (place_of (release_from s gone).shelf) (sym z) ∙ release-done s gone h.good (and_right (same_key gone key) freed t) in
        record { held = rw (t, e); kept = λ i. absurd (omega arith) })
        (λ f. unmoved s log h (step s freeing) (entry s freeing) key (release-apart s gone h.good key f) (λ n. refl) refl f)

  pub step-holds : (c : Call) → Holds (step s c) (entry s c ∷ log)
  step-holds (Call.offer payload) = record { good = offer-good s payload h.good; table = offered-kept payload }
  step-holds (Call.load file) = record { good = load-good s file h.good; table = loaded-kept file }
  step-holds (Call.release gone) = record { good = release-good s gone h.good; table = released-kept gone }
  step-holds (Call.ask question) = record { good = h.good; table = λ key. record { held = (h.table key).held; kept = (h.table key).kept } }

pub holds-from : (s : State) (log : List Entry) → Holds s log → (cs : List Call) → Holds (after s cs) (logged s log cs)
holds-from s log h [] = h
holds-from s log h (c ∷ cs) = holds-from (step s c) (entry s c ∷ log) (step-holds s log h c) cs

-- a fresh shelf
fresh-free : (p : ℕ) → p < places → place_at fresh p ≡ free_place
unfolding fresh
fresh-free p h = get_or-replicate places p free_place _ h

pub fresh-unheld : (key : Key) → place_of fresh key ≡ places
fresh-unheld key = not-held fresh key (λ p h. ap (λ x. has_key x key) (fresh-free p h) ∙ has-not free_place key refl)

module _ (store : List ℕ) (lent : length store ≡ store_size) where
  abbrev begun : State
  begun = record { shelf = fresh; store = store }

  fresh-good : Good begun
  unfolding fresh spoiled_of spoiled_place alike some
  fresh-good =
      record {
        formed = record { four = refl; sixteen = λ p h. ap (λ x. length x.lengths) (fresh-free p h) };
        lent = lent;
        unspoiled = refl;
      }

  pub fresh_holds : Holds begun []
  fresh_holds =
      record {
        good = fresh-good;
        table = λ key.
            let e : place_of fresh key ≡ places = fresh-unheld key in record { held = rw e; kept = λ i. absurd (omega arith) };
      }

pub start-holds : Holds start []
start-holds = fresh_holds (zeros store_size) (zeros-length store_size)

pub holds-all : (h : List Call) → Holds (after_all h) (log_of h)
holds-all h = holds-from start [] start-holds h
