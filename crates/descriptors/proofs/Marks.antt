-- The trigger Tap's mark, in plain words of the loop `s`.
--   tap_exactly     a descriptor is read with tag 0x72 and length 24, and each byte of its view matches the mark's
--   tap_still       what was marked before request 2 is marked still
--   tap_separated   `/` and `-` stand in every mark
--   mark_long, station_marked, capitals_marked   the mark has 24 bytes; the request's own station is heard, and one of capitals
--   one_tap         two answers that keep the promise of `descriptors::is_trigger_tap` are equal
use mathlib.Core.Path.{◌≡◌, refl, sym, ap, ◌∙◌}
use mathlib.Core.Bool.{Bool, true, ◌&&◌}
use mathlib.Core.List.{List}
use mathlib.Core.Logic.{inl}
use Prim.Native.Nat.{ℕ, ◌+◌}
use native.Mathlib.Omega.{arith}
use lib.Dec.{eqb}
use borrow.Author.Tests.{eqb-true, eq-eqb}
use Rattle.base.specs.Bytes.{byte, part}
use Rattle.base.specs.Below.{every}
use Rattle.base.proofs.Below.{every-all, every-each}
use Rattle.base.proofs.Bytes.{byte-part}
use Rattle.base.proofs.Cases.{unlike, and_left, and_right}
use Rattle.std.specs.Prelude.{Ok, Err, Some, None}
use Rattle.descriptors.specs.declared.Descriptor.{Descriptor}
use Rattle.descriptors.specs.Loop.{Step, step_of, view_of}
use Rattle.descriptors.specs.Letter.{across_case, matches}
use Rattle.descriptors.specs.Mark.{mark, mark_at, marks, is_trigger_tap}
use Rattle.descriptors.specs.Theorems.{EachMatches, Marked, TapExactly, TapStill, TapSeparated, MarkLong, StationMarked, CapitalsMarked, OneTap}
use Rattle.descriptors.proofs.ExactlyWhen.{view_whole}
use Rattle.descriptors.proofs.Letters.{matches_exactly, apart}

module _ (s : List ℕ) (start : ℕ) where
  abbrev letter : ℕ → Bool
  letter k = matches (byte s (start + k)) (byte mark k)

  -- the comparison of letters, said of the bytes of a view
  mark-each : mark_at s start ≡ true → EachMatches (part s start 24)
  unfolding mark_at
  mark-each e k l = rw (byte-part s start 24 k l) ((matches_exactly (byte s (start + k)) (byte mark k)).0 (every-each letter 24 k l e))

  each-mark : EachMatches (part s start 24) → mark_at s start ≡ true
  unfolding mark_at
  each-mark h =
      every-all letter 24
      (λ k l. (matches_exactly (byte s (start + k)) (byte mark k)).1 (rw (byte-part s start 24 k l) at (h k l)))

module _ (s : List ℕ) (at : ℕ) where
  pub tap_exactly : TapExactly s at
  unfolding is_trigger_tap
  tap_exactly = (to (step_of s at) refl, from)
    where
      -- the view of a descriptor of 24 bytes
      view : (d : Descriptor) → step_of s at ≡ Ok (Some d) → d.length ≡ 24 → view_of s at ≡ part s d.start 24
      view d e n = (view_whole s at d e).0 ∙ ap (part s d.start) n

      to : (x : Step) → step_of s at ≡ x → marks s x ≡ true → Marked s at
      to (Ok (Some d)) e m =
          let t : d.tag ≡ 0x72 = eqb-true _ _ (and_left (eqb d.tag 0x72) _ m) in
          let r : eqb d.length 24 && mark_at s d.start ≡ true = and_right (eqb d.tag 0x72) _ m in
          let n : d.length ≡ 24 = eqb-true _ _ (and_left (eqb d.length 24) _ r) in
          let w : mark_at s d.start ≡ true = and_right (eqb d.length 24) _ r in
          record {
            found = d;
            here = e;
            tag = t;
            long = n;
            view = rw (view d e n) (mark-each s d.start w);
          }
      to (Ok None) e m = absurd (unlike (sym m))
      to (Err n) e m = absurd (unlike (sym m))

      from : Marked s at → marks s (step_of s at) ≡ true
      from w =
          rw (
            w.here,
            eq-eqb _ _ w.tag,
            eq-eqb _ _ w.long,
            each-mark s w.found.start (rw (view w.found w.here w.long) at w.view),
          )

  pub tap_still : TapStill s at
  tap_still w =
      tap_exactly.1
      (record {
        found = w.found;
        here = w.here;
        tag = w.tag;
        long = w.long;
        view = λ k l. inl (ap (λ v. byte v k) w.view);
      })

  pub tap_separated : TapSeparated s at
  unfolding mark
  tap_separated e =
      let w = tap_exactly.0 e in (
        (apart.slash (byte (view_of s at) 11)).0 ((matches_exactly _ _).1 (w.view 11 (omega arith))),
        (apart.hyphen (byte (view_of s at) 16)).0 ((matches_exactly _ _).1 (w.view 16 (omega arith))),
      )

  pub one_tap : OneTap s at
  one_tap x y p q = p ∙ sym q

pub mark_long : MarkLong
unfolding mark
mark_long = refl

pub station_marked : StationMarked
unfolding is_trigger_tap step_of mark_at every matches across_case mark
station_marked = refl

pub capitals_marked : CapitalsMarked
unfolding is_trigger_tap step_of mark_at every matches across_case mark
capitals_marked = refl
