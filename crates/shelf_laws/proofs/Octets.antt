-- Lists of bytes, and the store over a history of bytes.
--   octets-nil, octets-cons, octets-append     a list of bytes
--   others                                     the calls after the first are of bytes
--   octets-after      the store is of bytes after every history whose payloads and files are
use mathlib.Core.Bool.{Bool, true}
use mathlib.Core.List.{List, [], ◌∷◌, ◌++◌}
use Prim.Native.Nat.{ℕ, zero, suc, ◌+◌, ◌<◌}
use native.Mathlib.Omega.{arith}
use lib.Dec.{eqb}
use lib.ListN.{length, get_or, take, drop}
use lib.Seq.{get_or-drop}
use Rattle.std.specs.Prelude.{Result}
use Rattle.refusal.specs.declared.Refusal.{Refusal}
use Rattle.base.specs.Octets.{Octets}
use Rattle.base.specs.Bytes.{part, zeros}
use Rattle.base.proofs.Bytes.{octets-part}
use Rattle.base.proofs.Cases.{by}
use Rattle.berth.specs.Berth.{sections, store_size, laid, padded, put, wiped, wiped_where}
use Rattle.shelf.specs.Record.{place_at, holds, place_of, free_of}
use Rattle.key.specs.declared.Key.{Key}
use Rattle.file.specs.Scan.{scan_of}
use Rattle.file.specs.declared.Table.{Table}
use Rattle.shelf_offer.specs.Offer as Offer
use Rattle.shelf_release.specs.Release as Release
use Rattle.shelf_load.specs.Load as Load
use Rattle.shelf_load.specs.Load.{stored_below}
use Rattle.shelf_laws.specs.State.{State}
use Rattle.shelf_laws.specs.File.{starts_in, lengths_in}
use Rattle.shelf_laws.specs.History.{OfBytes, Call, step, after, start, after_all}
use Rattle.shelf_laws.proofs.Offering as Offering
use Rattle.shelf_laws.proofs.Released as Releasing
use Rattle.shelf_laws.proofs.Loaded as Loading

pub octets-cons : (x : ℕ) (s : List ℕ) → x < 256 → Octets s → Octets (x ∷ s)
octets-cons x s h o zero = h
octets-cons x s h o (suc k) = o k

pub octets-nil : Octets []
octets-nil k = omega arith

pub octets-append : (a b : List ℕ) → Octets a → Octets b → Octets (a ++ b)
octets-append [] b o p = p
octets-append (x ∷ a) b o p = octets-cons x (a ++ b) (o 0) (octets-append a b (λ k. o (suc k)) p)

octets-take : (n : ℕ) (s : List ℕ) → Octets s → Octets (take n s)
octets-take n s o = octets-part s 0 n o

octets-drop : (n : ℕ) (s : List ℕ) → Octets s → Octets (drop n s)
octets-drop n s o k = rw (get_or-drop) (o (n + k))

octets-zeros : (n : ℕ) → Octets (zeros n)
unfolding zeros
octets-zeros zero = octets-nil
octets-zeros (suc n) = octets-cons 0 (zeros n) (omega arith) (octets-zeros n)

-- the store
octets-laid : (store : List ℕ) (at : ℕ) (bytes : List ℕ) → Octets store → Octets bytes → Octets (laid store at bytes)
unfolding laid
octets-laid store at bytes o p =
    octets-append (take at store) (bytes ++ drop (at + length bytes) store) (octets-take at store o)
    (octets-append bytes (drop (at + length bytes) store) p (octets-drop (at + length bytes) store o))

octets-put : (store : List ℕ) (p n : ℕ) (bytes : List ℕ) → Octets store → Octets bytes → Octets (put store p n bytes)
unfolding put padded
octets-put store p n bytes o q = octets-laid store _ _ o (octets-append bytes _ q (octets-zeros _))

octets-wiped : (picks : ℕ → Bool) (k : ℕ) (store : List ℕ) (p : ℕ) → Octets store → Octets (wiped_where picks k store p)
unfolding wiped_where wiped
octets-wiped picks zero store p o = o
octets-wiped picks (suc k) store p o =
    by (picks k)
    (λ t. rw t (octets-laid (wiped_where picks k store p) _ _ (octets-wiped picks k store p o) (octets-zeros _)))
    (λ f. rw f (octets-wiped picks k store p o))

octets-stored : (k : ℕ) (file starts lengths store : List ℕ) (p : ℕ) → Octets file → Octets store → Octets (stored_below k file starts lengths store p)
unfolding stored_below
octets-stored zero file starts lengths store p f o = o
octets-stored (suc k) file starts lengths store p f o =
    by (eqb (get_or lengths k 0) 0)
    (λ t. rw t (octets-stored k file starts lengths store p f o))
    (λ t.
    rw t
    (octets-put (stored_below k file starts lengths store p) p k (part file (get_or starts k 0) (get_or lengths k 0))
    (octets-stored k file starts lengths store p f o) (octets-part file (get_or starts k 0) (get_or lengths k 0) f)))

-- what a call leaves
module _ (s : State) (o : Octets s.store) where
  offer-octets : (payload : List ℕ) → Octets payload → {r : Offer.After} → Offering.Goes s payload r → Octets r.store
  offer-octets payload b (Offering.Goes.refuses _ _) = o
  offer-octets payload b (Offering.Goes.began _ _ _) = octets-put s.store _ _ payload o b
  offer-octets payload b (Offering.Goes.began_again p _ _) =
      octets-put (wiped_where (holds (place_at s.shelf p)) sections s.store p) p _ payload
      (octets-wiped (holds (place_at s.shelf p)) sections s.store p o) b
  offer-octets payload b (Offering.Goes.added _ _ _ _ _) = octets-put s.store _ _ payload o b
  offer-octets payload b (Offering.Goes.repeats _ _ _ _ _ _) = o

  load-octets : (file : List ℕ) → Octets file → {scan : Result Table Refusal} {r : Load.After} → Loading.Goes s file scan r → Octets r.store
  load-octets file b (Loading.Goes.refuses _ _ _) = o
  load-octets file b (Loading.Goes.done _ _ _ _ _ _) =
      octets-stored sections file (starts_in (scan_of file)) (lengths_in (scan_of file)) s.store (free_of s.shelf) b o

  release-octets : (key : Key) {r : Release.After} → Releasing.Goes s key r → Octets r.store
  release-octets key (Releasing.Goes.refuses _ _) = o
  release-octets key (Releasing.Goes.done _ _ _) = octets-wiped (λ _. true) sections s.store (place_of s.shelf key) o

  step-octets : (c : Call) (cs : List Call) → OfBytes (c ∷ cs) → Octets (step s c).store
  step-octets (Call.offer payload) cs b = offer-octets payload b.0 (Offering.goes s payload)
  step-octets (Call.load file) cs b = load-octets file b.0 (Loading.goes s file)
  step-octets (Call.release key) cs b = release-octets key (Releasing.goes s key)
  step-octets (Call.ask question) cs b = o

-- the calls after the first
pub others : (c : Call) (cs : List Call) → OfBytes (c ∷ cs) → OfBytes cs
others (Call.offer payload) cs b = b.1
others (Call.load file) cs b = b.1
others (Call.release key) cs b = b
others (Call.ask question) cs b = b

octets-from : (s : State) → Octets s.store → (h : List Call) → OfBytes h → Octets (after s h).store
octets-from s o [] b = o
octets-from s o (c ∷ cs) b = octets-from (step s c) (step-octets s o c cs b) cs (others c cs b)

pub octets-after : (h : List Call) → OfBytes h → Octets (after_all h).store
octets-after h b = octets-from start (octets-zeros store_size) h b
