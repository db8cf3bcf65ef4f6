-- A loop that goes from record to record and writes on two channels. Assumes nothing.
use mathlib.Core.Path.{◌≡◌, refl, sym, ap, ◌∙◌}
use mathlib.Core.Bool.{true, false}
use mathlib.Core.List.{List}
use Prim.Native.Nat.{ℕ, ◌+◌, ◌-◌, ◌≤◌, ◌<◌}
use native.Mathlib.Nat.{add-zero}
use native.Mathlib.Omega.{arith}
use lib.ListN.{length, drop}
use Rattle.octets.proofs.Laws.{either}
use Rattle.text.proofs.Laws.{put_same}
use Rattle.text.specs.Text.{Put}
use Rattle.records.specs.declared.Entry.{Entry}
use Rattle.records.specs.Records.{Record, record_in, entry_in, is_whole, size_of}
use Rattle.records.specs.Transcripts.{Program, Filled, still, text_in, cost_in, filled, Turned}
use Rattle.records.specs.Channels.{Channels, output_of, report_of, Turns, Fills}
use Rattle.records.proofs.Transcripts.{none_size, Fits, cost-fits}
use Rattle.records.proofs.Filling.{Goes, goes_start, goes_end, full_stops, turned-inside, turned_less, turned-length, turned_goes, turned_stops}

module _ {S : Type 0} (c : Channels S) where
  abbrev p : Program S
  p = output_of c

  abbrev q : Program S
  q = report_of c

  -- the two texts of any record have the room that they are said to have
  abbrev pub Room : Type 0
  Room = (s : S) (r : Record) → length (c.text s r) + length (c.report s r) ≤ c.longest

  pub output-fits : Room → Fits (output_of c)
  output-fits room = record { text = λ s r. omega arith; cost = room }

  pub report-fits : Room → Fits (report_of c)
  report-fits room = record { text = λ s r. omega arith; cost = room }

  cost-both : (s : S) (xs : List ℕ) → cost_in p s xs ≡ length (text_in p s xs) + length (text_in q s xs)
  cost-both s xs = either (is_whole (entry_in c.forms xs)) (λ w. rw w refl) (λ w. rw w refl)

  -- ---- the record at a place of a file

  module _ (s : S) (xs : List ℕ) (at : ℕ) (out : List ℕ) (to : ℕ) (report : List ℕ) (told : ℕ) (e : Entry) (stands : e ≡ entry_in c.forms xs) where
    pub turns_whole : is_whole e ≡ true → (r : Record) (t : S) (read : ℕ) (out' : List ℕ) (to' : ℕ) (report' : List ℕ) (told' : ℕ) → r ≡ record_in (size_of e) xs → t ≡ c.next s r → read ≡ at + size_of e → Put (c.text s r) out to out' to' → Put (c.report s r) report told report' told' → Turns c s xs at out to report told t read out' to' report' told'
    turns_whole w r t read out' to' report' told' there next place stores tells =
        let whole : is_whole (entry_in c.forms xs) ≡ true = ap is_whole (sym stands) ∙ w in
        let is : r ≡ record_in (size_of (entry_in c.forms xs)) xs = there ∙ ap (λ (k : Entry). record_in (size_of k) xs) stands in
        let stored : c.text s r ≡ text_in p s xs = rw whole (ap (c.text s) is) in
        let reported : c.report s r ≡ text_in q s xs = rw whole (ap (c.report s) is) in
        record {
          left = rw whole (next ∙ ap (c.next s) is);
          place = place ∙ ap (λ (k : Entry). at + size_of k) stands;
          stores = put_same out to stored stores;
          tells = put_same report told reported tells;
        }

    pub turns_none : is_whole e ≡ false → (t : S) (read to' told' : ℕ) → t ≡ s → read ≡ at → to' ≡ to → told' ≡ told → Turns c s xs at out to report told t read out to' report told'
    turns_none w t read to' told' same place to_is told_is =
        let none : is_whole (entry_in c.forms xs) ≡ false = ap is_whole (sym stands) ∙ w in
        let size : size_of (entry_in c.forms xs) ≡ 0 = none_size (entry_in c.forms xs) none in
        record {
          left = rw none same;
          place = place ∙ sym (add-zero at) ∙ ap (λ (k : ℕ). at + k) (sym size);
          stores = rw none (to_is ∙ sym (add-zero to), refl);
          tells = rw none (told_is ∙ sym (add-zero told), refl);
        }

  -- ---- what the loop has done so far, and what is still to be filled

  pub record Doing (s₀ : S) (file out₀ report₀ : List ℕ) (s : S) (out report : List ℕ) (at to told : ℕ) : Type 0 where
    pub inside : at ≤ length file
    pub room : to + told ≤ length out
    pub same_out : length out ≡ length out₀
    pub same_report : length report ≡ length report₀
    pub stores : Goes out₀ (filled p (length out₀) s₀ file) out at to (filled p (length out - (to + told)) s (drop at file))
    pub tells : Goes report₀ (filled q (length out₀) s₀ file) report at told (filled q (length out - (to + told)) s (drop at file))

  pub doing_start : (s : S) (file out report : List ℕ) → Doing s file out report s out report 0 0 0
  doing_start s file out report =
      let all : length out - (0 + 0) ≡ length out = omega arith in
      record {
        inside = omega arith;
        room = omega arith;
        same_out = refl;
        same_report = refl;
        stores = rw all (goes_start out (filled p (length out) s file));
        tells = rw all (goes_start report (filled q (length out) s file));
      }

  module _ (s₀ : S) (file out₀ report₀ : List ℕ) where
    abbrev f₀ : Filled S
    f₀ = filled p (length out₀) s₀ file

    abbrev g₀ : Filled S
    g₀ = filled q (length out₀) s₀ file

    -- nothing is left to fill, and the code hands this out
    fills_end : (s : S) (out report : List ℕ) (at to told : ℕ) → Goes out₀ f₀ out at to (still s) → Goes report₀ g₀ report at told (still s) → (t : S) (read wrote line : ℕ) → t ≡ s → read ≡ at → wrote ≡ to → line ≡ told → Fills c s₀ file out₀ report₀ t read out wrote report line
    fills_end s out report at to told g h t read wrote line same place wrote-is line-is =
        let a = goes_end out₀ f₀ out at to s g in
        let b = goes_end report₀ g₀ report at told s h in
        record { left = same ∙ a.0; place = place ∙ a.1; stores = (wrote-is ∙ a.2.0, a.2.1); tells = (line-is ∙ b.2.0, b.2.1) }

    module _ (s : S) (out report : List ℕ) (at to told : ℕ) (d : Doing s₀ file out₀ report₀ s out report at to told) where
      abbrev left : ℕ
      left = length out - (to + told)

      pub doing_full : length out - (to + told) < c.longest → (t : S) (read wrote line : ℕ) → t ≡ s → read ≡ at → wrote ≡ to → line ≡ told → Fills c s₀ file out₀ report₀ t read out wrote report line
      doing_full full =
          fills_end s out report at to told
          (full_stops p out₀ f₀ out at to left s (drop at file) full d.stores)
          (full_stops q report₀ g₀ report at told left s (drop at file) full d.tells)

      -- a turn was made
      module _ (t : S) (read : ℕ) (out' : List ℕ) (to' : ℕ) (report' : List ℕ) (told' : ℕ) (turn : Turns c s (drop at file) at out to report told t read out' to' report' told') where
        output-turned : Turned p s (drop at file) at to out t read out' to'
        output-turned = (turn.left, turn.place, turn.stores)

        report-turned : Turned q s (drop at file) at told report t read report' told'
        report-turned = (turn.left, turn.place, turn.tells)

        pub doing_stops : read ≡ at → (u : S) (read wrote line : ℕ) → u ≡ t → read ≡ at → wrote ≡ to' → line ≡ told' → Fills c s₀ file out₀ report₀ u read out' wrote report' line
        doing_stops same =
            fills_end t out' report' at to' told'
            (turned_stops p file out out' at to read to' s t output-turned out₀ f₀ left d.stores same)
            (turned_stops q file report report' at told read told' s t report-turned report₀ g₀ left d.tells same)

        pub doing_less : (read ≡ at → ⊥) → length file - read < length file - at
        doing_less moved = turned_less p file out out' at to read to' s t output-turned d.inside moved

        out_same : length out' ≡ length out
        out_same = turned-length p file out out' at to read to' s t output-turned

        pub doing_more : Room → c.longest ≤ length out - (to + told) → (read ≡ at → ⊥) → Doing s₀ file out₀ report₀ t out' report' read to' told'
        doing_more fits room moved =
            let xs : List ℕ = drop at file in
            let cost : cost_in p s xs ≡ length (text_in p s xs) + length (text_in q s xs) = cost-both s xs in
            let most : cost_in p s xs ≤ c.longest = cost-fits p (output-fits fits) s xs in
            let rest : length out' - (to' + told') ≡ left - cost_in p s xs = omega (arith, turn.stores.0, turn.tells.0, cost, most, out_same) in
            record {
              inside = turned-inside p file out out' at to read to' s t output-turned d.inside;
              room = omega (arith, d.room, turn.stores.0, turn.tells.0, cost, most, out_same);
              same_out = out_same ∙ d.same_out;
              same_report = turned-length q file report report' at told read told' s t report-turned ∙ d.same_report;
              stores = turned_goes p file out out' at to read to' s t output-turned out₀ f₀ left d.stores room moved (length out' - (to' + told')) rest;
              tells = turned_goes q file report report' at told read told' s t report-turned report₀ g₀ left d.tells room moved (length out' - (to' + told')) rest;
            }
