-- Each way out of an item, of a step and of the table's own loop.
--   item-early, item-cut, item-past, item-reads
--   step-refused, step_over, step-item
--   own-early, own-cut, own-past, own-left, own-reads, own-refused, own-there
use mathlib.Core.Path.{◌≡◌, refl, ap, ◌∙◌}
use mathlib.Core.Bool.{true}
use mathlib.Core.List.{List}
use Prim.Native.Nat.{ℕ, ◌+◌, ◌-◌, ◌<◌, ◌≤◌}
use native.Mathlib.Omega.{arith}
use lib.ListN.{length}
use borrow.Author.Tests.{lt-ltb, le-ltb, le-leb, lt-leb}
use Rattle.base.specs.Bytes.{byte}
use Rattle.programme.specs.Table.{flags_at, playback_length_at, playback_delay_at, expiration_at, content_size_at, content_name_length_at, content_name_at}
use Rattle.programme.specs.Table.{num_content_descriptors_at, content_descriptors_at}
use Rattle.programme.specs.Table.{content_linkage, flags, playback_length, playback_delay, expiration, content_size, content_name_length, num_content_descriptors}
use Rattle.programme.specs.Reading.{cut, early, read_of, item_run, own_run, item_faults, item_of, item_at, step_of, own_at, own_of}
use Rattle.std.specs.Prelude.{Ok, Err, Some, None}
use Rattle.refusal.specs.declared.Refusal.{Refusal}
use Rattle.refusal.specs.declared.Refusal.TheVariants.{ProgrammePassesEnd, ProgrammeBytesLeft}
use Rattle.programme.specs.declared.Programme.{Programme}
use Rattle.programme.specs.declared.Item.{Item}
use Rattle.programme.proofs.Rows.{held, either_way, one_number, no_row}

-- the item at a place whose descriptors end at another
abbrev pub item_to : List ℕ → ℕ → ℕ → Item
item_to s at end =
    record {
      linkage = content_linkage s at;
      flags = flags s at;
      playback = playback_length s at;
      delay = playback_delay s at;
      expires = expiration s at;
      size = content_size s at;
      nameat = content_name_at s at;
      named = content_name_length s at;
      descriptors =
          record { count = num_content_descriptors s at; place = content_descriptors_at s at; length = end - content_descriptors_at s at };
      next = end;
    }

module _ (s : List ℕ) (at : ℕ) where
  item_refused : held (item_faults s at) ≡ true → Err ProgrammePassesEnd ≡ item_at s at
  unfolding item_at
  item_refused h =
      one_number Err ProgrammePassesEnd (Ok (Some (item_of s at))) (item_faults s at)
      (refl, (refl, (refl, (refl, (refl, (refl, (refl, (refl, (refl, (refl, (refl, tt))))))))))) h

  pub item-early : at < 17 → Err ProgrammePassesEnd ≡ item_at s at
  item-early l = item_refused (rw (lt-ltb at 17 l))

  -- the fields' places rise, so one passes the end where the last does
  pub item-cut : length s < content_descriptors_at s at → Err ProgrammePassesEnd ≡ item_at s at
  item-cut l =
      item_refused
      (either_way (early at) _
      (either_way (cut s (flags_at s at)) _
      (either_way (cut s (playback_length_at s at)) _
      (either_way (cut s (playback_delay_at s at)) _
      (either_way (cut s (expiration_at s at)) _
      (either_way (cut s (content_size_at s at)) _
      (either_way (cut s (content_name_length_at s at)) _
      (either_way (cut s (content_name_at s at)) _
      (either_way (cut s (num_content_descriptors_at s at)) _ (rw (lt-ltb (length s) (content_descriptors_at s at) l)))))))))))

  pub item-past : item_run s at ≡ None → Err ProgrammePassesEnd ≡ item_at s at
  item-past e =
      item_refused
      (either_way (early at) _
      (either_way (cut s (flags_at s at)) _
      (either_way (cut s (playback_length_at s at)) _
      (either_way (cut s (playback_delay_at s at)) _
      (either_way (cut s (expiration_at s at)) _
      (either_way (cut s (content_size_at s at)) _
      (either_way (cut s (content_name_length_at s at)) _
      (either_way (cut s (content_name_at s at)) _
      (either_way (cut s (num_content_descriptors_at s at)) _
      (either_way (cut s (content_descriptors_at s at)) _ (rw e)))))))))))

  pub item-reads : 17 ≤ at → content_descriptors_at s at ≤ length s → (end : ℕ) → item_run s at ≡ Some end → Ok (Some (item_to s at end)) ≡ item_at s at
  unfolding item_at
  item-reads a l end e =
      let to : item_to s at end ≡ item_of s at = rw e in
      ap (λ i. Ok (Some i)) to
      ∙ no_row Err ProgrammePassesEnd (Ok (Some (item_of s at))) (item_faults s at)
      (rw (
        le-ltb at 17 a,
        le-ltb (length s) (flags_at s at) (omega arith),
        le-ltb (length s) (playback_length_at s at) (omega arith),
        le-ltb (length s) (playback_delay_at s at) (omega arith),
        le-ltb (length s) (expiration_at s at) (omega arith),
        le-ltb (length s) (content_size_at s at) (omega arith),
        le-ltb (length s) (content_name_length_at s at) (omega arith),
        le-ltb (length s) (content_name_at s at) (omega arith),
        le-ltb (length s) (num_content_descriptors_at s at) (omega arith),
        le-ltb (length s) (content_descriptors_at s at) l,
        e,
      ))

  module _ (k : ℕ) where
    pub step-refused : (n : Refusal) → read_of s ≡ Err n → Err n ≡ step_of s at k
    unfolding step_of
    step-refused n e = rw e

    module _ (p : Programme) (e : read_of s ≡ Ok p) where
      pub step_over : p.items ≤ k → Ok None ≡ step_of s at k
      unfolding step_of
      step_over l = rw (e, le-leb p.items k l)

      pub step-item : k < p.items → item_at s at ≡ step_of s at k
      unfolding step_of
      step-item l = rw (e, lt-leb p.items k l)

  pub own-early : at < 17 → Err ProgrammePassesEnd ≡ own_at s at
  unfolding own_at
  own-early l = rw (lt-ltb at 17 l)

  module _ (a : 17 ≤ at) where
    pub own-cut : length s < at + 1 → Err ProgrammePassesEnd ≡ own_at s at
    unfolding own_at
    own-cut l = rw (le-ltb at 17 a, lt-ltb (length s) (at + 1) l)

    module _ (l : at + 1 ≤ length s) where
      pub own-past : own_run s at ≡ None → Err ProgrammePassesEnd ≡ own_at s at
      unfolding own_at
      own-past e = rw (le-ltb at 17 a, le-ltb (length s) (at + 1) l, e)

      module _ (end : ℕ) (e : own_run s at ≡ Some end) where
        pub own-left : end < length s → Err ProgrammeBytesLeft ≡ own_at s at
        unfolding own_at
        own-left h = rw (le-ltb at 17 a, le-ltb (length s) (at + 1) l, e, lt-ltb end (length s) h)

        pub own-reads : length s ≤ end
            → Ok (record { count = byte s at; place = at + 1; length = end - (at + 1) }) ≡ own_at s at
        unfolding own_at
        own-reads h = rw (le-ltb at 17 a, le-ltb (length s) (at + 1) l, e, le-ltb end (length s) h)

  pub own-refused : (n : Refusal) → read_of s ≡ Err n → Err n ≡ own_of s at
  unfolding own_of
  own-refused n e = rw e

  pub own-there : (p : Programme) → read_of s ≡ Ok p → own_at s at ≡ own_of s at
  unfolding own_of
  own-there p e = rw e
