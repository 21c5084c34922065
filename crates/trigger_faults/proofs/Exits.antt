-- Laws on the faults of a trigger, part by part.
--   head-sound, target_sound, user-sound        what holds where a part has no fault
--   read_head, read-target, read-user, read-on  what the table of all faults answers, by the parts' faults
--   parted, read-refused                        what the answer of `parts_of` says
--   placed                                      what is answered where no part has a fault
use mathlib.Core.Path.{◌≡◌, sym, ◌∙◌}
use mathlib.Core.Bool.{false, ◌&&◌}
use mathlib.Core.List.{List, ◌++◌}
use Prim.Native.Nat.{ℕ, ◌+◌, ◌≤◌}
use native.Mathlib.Omega.{arith}
use lib.ListN.{length}
use borrow.Author.Tests.{ltb-false, eqb-true, eqb-false, not-false}
use Rattle.std.specs.Prelude.{Ok, Err}
use Rattle.refusal.specs.declared.Refusal.{Refusal}
use Rattle.base.specs.Choice.{first}
use Rattle.base.proofs.Tables.{passes}
use Rattle.base.specs.Bytes.{byte, word}
use Rattle.trigger_faults.specs.declared.Placed.{Placed}
use Rattle.trigger_faults.specs.Fields.{head_faults, target_faults, user_faults, wrong_length, is_uri, some_high, target_at, user_at, faults}
use Rattle.trigger_faults.specs.Parts.{head_fault, target_fault, user_fault, placed_in, parts_of, Sound}
use Rattle.trigger_faults.proofs.Tables.{first-split, stops, goes, Passed, clear, passed, passed-left, passed-right}

pub record Head (s : List ℕ) : Type 0 where
  pub small : length s ≤ 4096
  pub event : byte s 0 ≡ 0
  pub sized : 3 ≤ length s
  pub allowed : word s 1 ≡ 1 → ⊥
  pub ends : 3 + word s 1 ≤ length s

pub head-sound : (s : List ℕ) → head_fault s ≡ Ok tt → Head s
unfolding head_fault
head-sound s e =
    let p = passed (head_faults s) e in
    record {
      small = ltb-false _ _ p.0;
      event = eqb-true _ _ (not-false _ p.1.1.0);
      sized = ltb-false _ _ p.1.1.1.0;
      allowed = eqb-false _ _ p.1.1.1.1.0;
      ends = ltb-false _ _ p.1.1.1.1.1.0;
    }

pub record Aimed (s : List ℕ) (at : ℕ) : Type 0 where
  pub sized : at + 3 ≤ length s
  pub allowed : wrong_length (byte s at) (word s (at + 1)) ≡ false
  pub ends : at + 3 + word s (at + 1) ≤ length s
  pub ascii : is_uri (byte s at) && some_high s (at + 3) (word s (at + 1)) ≡ false

pub target_sound : (s : List ℕ) (at : ℕ) → target_fault s at ≡ Ok tt → Aimed s at
unfolding target_fault
target_sound s at e =
    let p = passed (target_faults s at) e in
    record { sized = ltb-false _ _ p.0; allowed = p.1.0; ends = ltb-false _ _ p.1.1.0; ascii = p.1.1.1.0 }

pub record Ended (s : List ℕ) (at : ℕ) : Type 0 where
  pub sized : at + 2 ≤ length s
  pub ends : at + 2 + word s at ≡ length s

pub user-sound : (s : List ℕ) (at : ℕ) → user_fault s at ≡ Ok tt → Ended s at
unfolding user_fault
user-sound s at e =
    let p = passed (user_faults s at) e in
    let a : at + 2 + word s at ≤ length s = ltb-false _ _ p.1.0 in
    let b : length s ≤ at + 2 + word s at = ltb-false _ _ p.1.1.0 in
    record { sized = ltb-false _ _ p.0; ends = omega arith }

module _ {A : Type 0} (refused : Refusal → A) (other : A) (s : List ℕ) where
  pub read_head : {r : Refusal} → Err r ≡ head_fault s → refused r ≡ first refused (faults s) other
  unfolding head_fault
  read_head e =
      stops refused (head_faults s) _ tt _ e
      ∙ sym (first-split refused (head_faults s) (target_faults s (target_at s) ++ user_faults s (user_at s)) _)

  module _ (h : head_fault s ≡ Ok tt) where
    -- what is read after the head
    after-head : first refused (target_faults s (target_at s) ++ user_faults s (user_at s)) other ≡ first refused (faults s) other
    unfolding head_fault
    after-head =
        sym
        (first-split refused (head_faults s) (target_faults s (target_at s) ++ user_faults s (user_at s)) _
        ∙ passes (head_faults s) tt tt refused _ h)

    pub read-target : {r : Refusal} → Err r ≡ target_fault s (target_at s) → refused r ≡ first refused (faults s) other
    unfolding target_fault
    read-target e =
        stops refused (target_faults s (target_at s)) _ tt _ e
        ∙ sym (first-split refused (target_faults s (target_at s)) (user_faults s (user_at s)) _)
        ∙ after-head

    module _ (t : target_fault s (target_at s) ≡ Ok tt) where
      -- what is read after the target
      pub after-target : first refused (user_faults s (user_at s)) other ≡ first refused (faults s) other
      unfolding target_fault
      after-target =
          sym
          (first-split refused (target_faults s (target_at s)) (user_faults s (user_at s)) _
          ∙ passes (target_faults s (target_at s)) tt tt refused _ t)
          ∙ after-head

      pub read-user : {r : Refusal} → Err r ≡ user_fault s (user_at s) → refused r ≡ first refused (faults s) other
      unfolding user_fault
      read-user e = stops refused (user_faults s (user_at s)) _ tt _ e ∙ after-target

      pub read-on : user_fault s (user_at s) ≡ Ok tt → other ≡ first refused (faults s) other
      unfolding user_fault
      read-on u = sym (passes (user_faults s (user_at s)) tt tt refused _ u) ∙ after-target

module _ (s : List ℕ) where
  -- where no row of all holds, no part has a fault
  pub all_sound : Passed (faults s) → Sound s
  unfolding head_fault target_fault user_fault
  all_sound p =
      let q = passed-right (head_faults s) (target_faults s (target_at s) ++ user_faults s (user_at s)) p in
      record {
        head = goes Err (head_faults s) (Ok tt) (passed-left (head_faults s) (target_faults s (target_at s) ++ user_faults s (user_at s)) p);
        target = goes Err (target_faults s (target_at s)) (Ok tt) (passed-left (target_faults s (target_at s)) (user_faults s (user_at s)) q);
        user = goes Err (user_faults s (user_at s)) (Ok tt) (passed-right (target_faults s (target_at s)) (user_faults s (user_at s)) q);
      }

  pub parted : {p : Placed} → Ok p ≡ parts_of s → Sound s × (p ≡ placed_in s)
  unfolding parts_of
  parted {p} e = let c = clear (faults s) (placed_in s) p (sym e) in (all_sound c.0, c.1)

  -- where `parts_of` refuses, so does any answer that is read off the same table
  pub read-refused : {A : Type 0} (other : A) {r : Refusal} → Err r ≡ parts_of s → Err r ≡ first Err (faults s) (Ok other)
  unfolding parts_of
  read-refused other e = stops Err (faults s) (Ok other) (placed_in s) _ e

  pub placed : {at tail : ℕ} → at ≡ target_at s → tail ≡ user_at s → Sound s → Ok (record { target = at; user = tail }) ≡ parts_of s
  unfolding parts_of
  placed a t h = rw (a, t) (read-on Err (Ok (placed_in s)) s h.head h.target h.user)
