-- Read after write, and write after read. Assumes nothing.
use mathlib.Core.Path.{◌≡◌, sym, ap, ap₂, ◌∙◌, subst}
use mathlib.Core.Bool.{true}
use mathlib.Core.List.{List, ◌++◌, map}
use Prim.Native.Nat.{ℕ, ◌*◌, ◌≤◌}
use native.Mathlib.Omega.{arith}
use lib.ListN.{length, take, drop}
use lib.Seq.{take_at, take-append_seam}
use Rattle.std.proofs.Common.{Result, Ok}
use Rattle.octets.specs.Bits.{Bytes}
use Rattle.meaning.specs.declared.Refusal.{Refusal}
use Rattle.meaning.specs.declared.Kind.{Kind}
use Rattle.meaning.specs.declared.Listed.{Listed}
use Rattle.meaning.specs.Sizes.{longest_chunk, longest_listing}
use Rattle.meaning.specs.Numbers.{read_values}
use Rattle.meaning.specs.Lists.{FicList, AllKnown}
use Rattle.meaning.specs.Layout.{wire, Carries}
use Rattle.meaning.specs.Listing.{listing}
use Rattle.meaning.specs.Said.{listing_fits, list_said}
use Rattle.meaning.specs.Plain.{plain, Fits, plain_length, Oldest, VersionsZero}
use Rattle.meaning.specs.Reading.{ReadSays, listed}
use Rattle.meaning.proofs.Answers.{carried_says}
use Rattle.meaning.proofs.Said.{listing_fitting, said-listing, listing-said, said_fitting, said-known}
use Rattle.meaning.proofs.Plain.{length-plain, plain_carried, bytes-carried, carried_fitting, carried_room, carried-known, oldest_plain}
use Rattle.segments.specs.Segment.{segment_bytes}
use Rattle.segments.specs.Cut.{segment_count, Choice, joined}
use Rattle.std.proofs.Common.{Ok}
use Rattle.writer.specs.Writing.{shortest_output, plainly, plain_segments, write_answer, write_output, WriteSays}
use Rattle.writer.proofs.Answers.{checks_written, says_written}
use Rattle.writer.proofs.Sent.{plainly_suits}
use Rattle.writer.proofs.Outputs.{length-plain_segments, plain_segments_whole}
use Rattle.desk.specs.declared.Desk.{Desk}
use Rattle.desk.specs.Calls.{state, wholly, ran}
use Rattle.gatherings.specs.Deliveries.{AtStart, first_segments, payloads_of, listed_by}
use Rattle.gatherings.specs.Once.{ComesInOrder}
use Rattle.gatherings.proofs.Payloads.{segments_found, payloads_cut}
use Rattle.gatherings.proofs.Cuts.{cut-carried}
use Rattle.gatherings.proofs.InOrder.{cut_delivered}

-- ---- the segments of a list that fits, and is not too long

module _ (k : Kind) (l : FicList) (fits : Fits l) (room : plain_length l ≤ longest_chunk) where
  abbrev chunk : List ℕ
  chunk = wire (plain k l)

  abbrev choice : Choice
  choice = plainly (length chunk)

  abbrev count : ℕ
  count = segment_count (plain_length l)

  carried : Carries chunk k 0 l
  carried = plain_carried k l fits room

  chunk_bytes : Bytes chunk
  chunk_bytes = bytes-carried carried

  -- the chunk with its stuffing carries the list too
  stuffed : Carries (chunk ++ choice.fill) k 0 l
  stuffed = cut-carried carried (plainly_suits chunk)

  pub segments_delivered : (d : Desk) → AtStart d → (first second : List ℕ) → longest_listing ≤ length first → longest_listing ≤ length second → let s = state d first second in ComesInOrder k (listing l) (segment_count (plain_length l)) d.notes.swapped first second (ran s (map (wholly s) (plain_segments k l)))
  unfolding plain_segments
  segments_delivered d start first second one other =
      subst (λ (n : ℕ). let s = state d first second in ComesInOrder k (listing l) (segment_count n) d.notes.swapped first second (ran s (map (wholly s) (plain_segments k l)))) (length-plain k l fits)
      (cut_delivered carried (plainly_suits chunk) d start first second one other)

  -- ---- its listing, written: no ensemble is unknown

  module _ (known : AllKnown l) (output : List ℕ) (space : shortest_output ≤ length output) where
    formed : listing_fits (listing l) ≡ true
    formed = listing_fitting l fits known

    said : list_said (listing l) ≡ l
    said = said-listing l fits formed

    written : let s = plain_segments k l in WriteSays (listing l) k output (Ok (length s)) (joined s ++ drop (segment_bytes * length s) output)
    written =
        let fine = checks_written (listing l) output space formed (subst (λ (m : FicList). plain_length m ≤ longest_chunk) (sym said) room) in
        subst (λ (m : FicList). let s = plain_segments k m in WriteSays (listing l) k output (Ok (length s)) (joined s ++ drop (segment_bytes * length s) output)) said
        (says_written (listing l) k output fine)

    pub written_count : write_answer (listing l) k output ≡ Ok (segment_count (plain_length l))
    written_count = sym written.answers ∙ ap Ok (length-plain_segments k l fits)

    pub written_segments : first_segments (segment_count (plain_length l)) (write_output (listing l) k output) ≡ plain_segments k l
    written_segments =
        let s = plain_segments k l in
        ap₂ first_segments (sym (length-plain_segments k l fits)) (sym written.leaves)
        ∙ segments_found s (drop (segment_bytes * length s) output) (plain_segments_whole k l fits room)

    pub written_payloads : payloads_of (first_segments (segment_count (plain_length l)) (write_output (listing l) k output)) ≡ wire (plain k l) ++ (plainly (length (wire (plain k l)))).fill
    written_payloads =
        ap payloads_of written_segments
        ∙ unfold plain_segments in payloads_cut chunk choice chunk_bytes (plainly_suits chunk) (omega (arith, length-plain k l fits))

    -- given whole to the reader, they are the listing again
    pub payloads_read : (before : List ℕ) → longest_listing ≤ length before → ReadSays (payloads_of (first_segments (segment_count (plain_length l)) (write_output (listing l) k output))) before (Ok (listed k 0 (length (listing l)))) (listing l ++ drop (length (listing l)) before)
    payloads_read before long =
        subst (λ (xs : List ℕ). ReadSays xs before (Ok (listed k 0 (length (listing l)))) (listing l ++ drop (length (listing l)) before)) (sym written_payloads)
        (carried_says stuffed before long)

-- ---- read after write, for a well formed listing

module _ (xs : List ℕ) (k : Kind) (output : List ℕ) (bytes : Bytes xs) (fits : listing_fits xs ≡ true) (room : plain_length (list_said xs) ≤ longest_chunk) (space : shortest_output ≤ length output) where
  abbrev l : FicList
  l = list_said xs

  abbrev n : ℕ
  n = segment_count (plain_length l)

  held : Fits l
  held = said_fitting xs bytes fits

  all_known : AllKnown l
  all_known = said-known xs

  same : listing l ≡ xs
  same = listing-said xs bytes fits

  pub written_so_many : write_answer xs k output ≡ Ok (segment_count (plain_length (list_said xs)))
  written_so_many = subst (λ (ys : List ℕ). write_answer ys k output ≡ Ok n) same (written_count k l held room all_known output space)

  pub read_after_write : (d : Desk) → AtStart d → (first second : List ℕ) → longest_listing ≤ length first → longest_listing ≤ length second → let n = segment_count (plain_length (list_said xs)) in let s = state d first second in ComesInOrder k xs n d.notes.swapped first second (ran s (map (wholly s) (first_segments n (write_output xs k output))))
  read_after_write d start first second one other =
      subst (λ (ys : List ℕ). let s = state d first second in ComesInOrder k ys n d.notes.swapped first second (ran s (map (wholly s) (first_segments n (write_output ys k output))))) same
      (subst (λ (x : List (List ℕ)). let s = state d first second in ComesInOrder k (listing l) n d.notes.swapped first second (ran s (map (wholly s) x))) (sym (written_segments k l held room all_known output space))
      (segments_delivered k l held room d start first second one other))

  pub read_whole_after_write : (before : List ℕ) → longest_listing ≤ length before → ReadSays (payloads_of (first_segments (segment_count (plain_length (list_said xs))) (write_output xs k output))) before (Ok (listed k 0 (length xs))) (xs ++ drop (length xs) before)
  read_whole_after_write before long =
      subst (λ (ys : List ℕ). ReadSays (payloads_of (first_segments n (write_output ys k output))) before (Ok (listed k 0 (length ys))) (ys ++ drop (length ys) before)) same
      (payloads_read k l held room all_known output space before long)

-- ---- write after read, for a chunk of the oldest edition whose ensembles are all of version 0

module _ {ys : List ℕ} {k : Kind} {m : ℕ} {l : FicList} (h : Carries ys k m l) where
  carried_listed : (buffer : List ℕ) → longest_listing ≤ length buffer → listed_by ys buffer ≡ listing l
  carried_listed buffer long =
      let s = carried_says h buffer long in
      ap₂ (λ (r : Result Listed Refusal) (t : List ℕ). take (read_values r).length t) (sym s.answers) (sym s.leaves) ∙ take-append_seam (listing l) (drop (length (listing l)) buffer)

  pub carried-short : plain_length l ≤ longest_chunk
  carried-short = omega (arith, carried_room h, h.allowed.room, ap length h.bytes)

  -- the same list, sent by the oldest edition
  pub oldest_carried : Carries (wire (plain k l)) k 0 l
  oldest_carried = plain_carried k l (carried_fitting h) carried-short

  pub write_after_read : Oldest h.chunk → VersionsZero h.chunk → (buffer output : List ℕ) → longest_listing ≤ length buffer → shortest_output ≤ length output → let n = segment_count (plain_length l) in (write_answer (listed_by ys buffer) k output ≡ Ok n) × (take (plain_length l) (payloads_of (first_segments n (write_output (listed_by ys buffer) k output))) ≡ take (plain_length l) ys) × (ys ≡ take (plain_length l) ys ++ h.chunk.stuffing)
  write_after_read oldest versions buffer output long space =
      let fits = carried_fitting h in
      let all_known = carried-known h versions in
      let n : ℕ = segment_count (plain_length l) in
      let w : List ℕ = wire (plain k l) in
      let size = length-plain k l fits in
      let own : ys ≡ w ++ h.chunk.stuffing = oldest_plain h oldest versions in
      let front : take (plain_length l) ys ≡ w = ap (take (plain_length l)) own ∙ take_at w h.chunk.stuffing (plain_length l) size in
      let back : take (plain_length l) (payloads_of (first_segments n (write_output (listing l) k output))) ≡ w =
      ap (take (plain_length l)) (written_payloads k l fits carried-short all_known output space) ∙ take_at w (plainly (length w)).fill (plain_length l) size in
      let listed = sym (carried_listed buffer long) in (
        subst (λ (xs : List ℕ). write_answer xs k output ≡ Ok n) listed (written_count k l fits carried-short all_known output space),
        subst (λ (xs : List ℕ). take (plain_length l) (payloads_of (first_segments n (write_output xs k output))) ≡ take (plain_length l) ys) listed (back ∙ sym front),
        own ∙ ap (λ (t : List ℕ). t ++ h.chunk.stuffing) (sym front),
      )
