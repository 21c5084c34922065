-- Two stores, outputs or answers that keep one promise are equal.
use mathlib.Core.Path.{◌≡◌, sym, ◌∙◌}
use mathlib.Core.Bool.{Bool}
use mathlib.Core.List.{List}
use Prim.Native.Nat.{ℕ}
use Rattle.berth.specs.Calls.{put_in, wiped_in, wiped_where_in, stands_in, copied_in}

module _ (store : List ℕ) (p : ℕ) where
  -- of `wipe_where` and of `wipe_all`
  pub wipe-where-unique : (picks : ℕ → Bool) (x y : List ℕ) → x ≡ wiped_where_in picks store p → y ≡ wiped_where_in picks store p → x ≡ y
  wipe-where-unique picks x y e f = e ∙ sym f

  module _ (n : ℕ) where
    pub put-unique : (section x y : List ℕ) → x ≡ put_in store p n section → y ≡ put_in store p n section → x ≡ y
    put-unique section x y e f = e ∙ sym f

    pub wipe-unique : (x y : List ℕ) → x ≡ wiped_in store p n → y ≡ wiped_in store p n → x ≡ y
    wipe-unique x y e f = e ∙ sym f

    pub stands-unique : (count : ℕ) (section : List ℕ) (x y : Bool) → x ≡ stands_in store p n count section → y ≡ stands_in store p n count section → x ≡ y
    stands-unique count section x y e f = e ∙ sym f

    pub copy-out-unique : (count : ℕ) (out x y : List ℕ) → x ≡ copied_in store p n count out → y ≡ copied_in store p n count out → x ≡ y
    copy-out-unique count out x y e f = e ∙ sym f
