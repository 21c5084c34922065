-- The berths' laws, for a berth of a store of its size.
--   Berth                                            berth n of place p of such a store
--   put-length, put-berth, put-here, put-elsewhere   after a section is stored in it
--   standing-length                                  how many bytes stand
use mathlib.Core.Path.{◌≡◌}
use mathlib.Core.List.{List}
use Prim.Native.Nat.{ℕ, ◌<◌, ◌≤◌}
use lib.ListN.{length}
use Rattle.berth.specs.Berth.{berth_size, sections, places, store_size, padded, put, standing}
use Rattle.berth.proofs.Berths as laws
use Rattle.berth.proofs.Berths.{Elsewhere}

pub record Berth (store : List ℕ) (p n : ℕ) : Type 0 where
  pub lent : length store ≡ store_size
  pub place : p < places
  pub number : n < sections

module _ (store : List ℕ) (p n : ℕ) (b : Berth store p n) where
  pub standing-length : (k : ℕ) → k ≤ berth_size → length (standing store p n k) ≡ k
  standing-length = laws.standing-length store b.lent p n b.place b.number

  module _ (bytes : List ℕ) (small : length bytes ≤ berth_size) where
    pub put-length : length (put store p n bytes) ≡ length store
    put-length = laws.put-length store b.lent p n b.place b.number bytes small

    pub put-berth : standing (put store p n bytes) p n berth_size ≡ padded berth_size bytes
    put-berth = laws.put-berth store b.lent p n b.place b.number bytes small

    pub put-here : standing (put store p n bytes) p n (length bytes) ≡ bytes
    put-here = laws.put-here store b.lent p n b.place b.number bytes small

    pub put-elsewhere : (q m k : ℕ) → m < sections → Elsewhere p n q m → k ≤ berth_size
        → standing (put store p n bytes) q m k ≡ standing store q m k
    put-elsewhere = laws.put-elsewhere store b.lent p n b.place b.number bytes small
