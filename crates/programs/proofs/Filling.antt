-- A loop that goes from record to record and writes on two channels: what is left to fill, put here, makes the whole that was asked for. Assumes nothing.
use mathlib.Core.Path.{◌≡◌, refl, sym, ap, ap₂, subst, ◌∙◌}
use mathlib.Core.Bool.{Bool, true, false, true≢false}
use mathlib.Core.List.{List}
use mathlib.Core.Logic.{◌⊎◌, inl, inr}
use Prim.Native.Nat.{ℕ, ◌+◌, ◌-◌, ◌≤◌, ◌<◌}
use native.Mathlib.Omega.{arith}
use lib.ListN.{length, take, drop, length-take, length-drop}
use lib.Seq.{drop-drop, length-sets}
use Rattle.text.specs.Text.{Put}
use Rattle.records.specs.declared.Form.{Form}
use Rattle.records.specs.declared.Form.TheVariants.{Foreign, Fixed, Counted}
use Rattle.records.specs.declared.Entry.{Entry}
use Rattle.records.specs.declared.Entry.TheVariants.{End, Whole, Unknown, Cut}
use Rattle.records.specs.Records.{Forms, form_bytes, mark_bytes, mark_in, entry_in, is_whole, size_of, Record, record_in}
use Rattle.records.specs.Transcripts.{Program, Filled, still, text_in, cost_in, filled, Turned}
use Rattle.records.specs.Channels.{Channels, output_of, report_of, Turns, Fills}
use Rattle.records.proofs.Entries.{whole_some}
use Rattle.records.proofs.Counted.{whole_told, whole_counted}
use Rattle.records.proofs.Transcripts.{filled_stop}
use Rattle.records.proofs.Filling.{Goes, goes_start, goes_end, full_stops, turned-inside, turned_less, turned-length, turned_goes}
use Rattle.records.proofs.Channels.{turns_whole}
use Rattle.programs.specs.Programs.{Holds, Takes}

pub not_whole : {e : Entry} → (e ≡ End) ⊎ ((e ≡ Unknown) ⊎ (e ≡ Cut)) → is_whole e ≡ false
not_whole (inl h) = ap is_whole h
not_whole (inr (inl h)) = ap is_whole h
not_whole (inr (inr h)) = ap is_whole h

-- no mark tells more than its longest record
pub holds-short : (f : Form) (xs : List ℕ) → Holds f xs → mark_bytes + length xs ≤ form_bytes f
holds-short Foreign xs h = absurd h
holds-short (Fixed n) xs h = omega arith
holds-short (Counted least most) xs h = omega (arith, h.1)

-- ---- the record at a place of a file: what stands behind its mark

module _ (forms : Forms) (file : List ℕ) (at size : ℕ) (stands : Whole size ≡ entry_in forms (drop at file)) where
  abbrev xs : List ℕ
  xs = drop at file

  pub whole_long : mark_bytes ≤ size
  whole_long = omega (arith, whole_some forms xs (ap is_whole (sym stands)), ap size_of stands)

  pub whole-inside : at ≤ length file → at + size ≤ length file
  whole-inside inside = omega (arith, (whole_told forms xs size stands (forms (mark_in xs)) refl).2, length-drop at file)

  abbrev content : List ℕ
  content = take (at + size - (at + mark_bytes)) (drop (at + mark_bytes) file)

  pub content_there : take (at + size - (at + mark_bytes)) (drop (at + mark_bytes) file) ≡ (record_in size (drop at file)).content
  content_there =
      let bytes : at + size - (at + mark_bytes) ≡ size - mark_bytes = omega arith in
      ap₂ take bytes (sym (drop-drop mark_bytes at file))

  pub record_there : (mark : ℕ) → mark ≡ mark_in (drop at file) → record { mark = mark; content = take (at + size - (at + mark_bytes)) (drop (at + mark_bytes) file) } ≡ record_in size (drop at file)
  record_there mark is = λ i. record { mark = is i; content = content_there i }

  content-length : length content ≡ size - mark_bytes
  content-length =
      omega (arith, ap length content_there, length-take (size - mark_bytes) (drop mark_bytes xs), length-drop mark_bytes xs, (whole_told forms xs size stands (forms (mark_in xs)) refl).2)

  holds_by : (f : Form) → forms (mark_in xs) ≡ f → Holds f content
  holds_by Foreign told = true≢false (sym (whole_told forms xs size stands Foreign told).0)
  holds_by (Fixed n) told = omega (arith, (whole_told forms xs size stands (Fixed n) told).1, content-length)
  holds_by (Counted least most) told =
      let w = whole_counted forms xs size stands least most told in
      (omega (arith, w.0, content-length), omega (arith, w.1, content-length))

  pub content_holds : (mark : ℕ) → mark ≡ mark_in (drop at file) → Holds (forms mark) (take (at + size - (at + mark_bytes)) (drop (at + mark_bytes) file))
  content_holds mark is = holds_by (forms mark) (ap forms (sym is))

module _ {S : Type 0} (c : Channels S) where
  abbrev p : Program S
  p = output_of c

  abbrev q : Program S
  q = report_of c

  -- ---- what the loop has done so far, and what is still to be filled

  pub record Doing (s₀ : S) (file out₀ report₀ : List ℕ) (s : S) (out report : List ℕ) (at to told : ℕ) : Type 0 where
    pub inside : at ≤ length file
    pub room : to + told ≤ length out
    pub told_inside : told ≤ length report
    pub same_out : length out ≡ length out₀
    pub same_report : length report ≡ length report₀
    pub stores : Goes out₀ (filled p (length out₀) s₀ file) out at to (filled p (length out - (to + told)) s (drop at file))
    pub tells : Goes report₀ (filled q (length out₀) s₀ file) report at told (filled q (length out - (to + told)) s (drop at file))

  pub doing_start : (s : S) (file out report : List ℕ) → Doing s file out report s out report 0 0 0
  doing_start s file out report =
      let all : length out - (0 + 0) ≡ length out = omega arith in
      record {
        inside = omega arith;
        room = omega arith;
        told_inside = omega arith;
        same_out = refl;
        same_report = refl;
        stores = rw all (goes_start out (filled p (length out) s file));
        tells = rw all (goes_start report (filled q (length out) s file));
      }

  module _ (s₀ : S) (file out₀ report₀ : List ℕ) where
    abbrev f₀ : Filled S
    f₀ = filled p (length out₀) s₀ file

    abbrev g₀ : Filled S
    g₀ = filled q (length out₀) s₀ file

    fills_end : (s : S) (out report : List ℕ) (at to told : ℕ) → Goes out₀ f₀ out at to (still s) → Goes report₀ g₀ report at told (still s) → Fills c s₀ file out₀ report₀ s at out to report told
    fills_end s out report at to told g h =
        let a = goes_end out₀ f₀ out at to s g in
        let b = goes_end report₀ g₀ report at told s h in
        record { left = a.0; place = a.1; stores = a.2; tells = b.2 }

    module _ (s : S) (out report : List ℕ) (at to told : ℕ) (d : Doing s₀ file out₀ report₀ s out report at to told) where
      abbrev left : ℕ
      left = length out - (to + told)

      -- no room for another record
      pub doing_full : length out - (to + told) < c.longest → Fills c s₀ file out₀ report₀ s at out to report told
      doing_full full =
          fills_end s out report at to told
          (full_stops p out₀ f₀ out at to left s (drop at file) full d.stores)
          (full_stops q report₀ g₀ report at told left s (drop at file) full d.tells)

      -- no whole record
      pub doing_stops : is_whole (entry_in c.forms (drop at file)) ≡ false → Fills c s₀ file out₀ report₀ s at out to report told
      doing_stops none =
          fills_end s out report at to told
          (subst (λ (f : Filled S). Goes out₀ f₀ out at to f) (filled_stop p left s (drop at file) none) d.stores)
          (subst (λ (f : Filled S). Goes report₀ g₀ report at told f) (filled_stop q left s (drop at file) none) d.tells)

      -- a record was taken
      module _ (size : ℕ) (stands : Whole size ≡ entry_in c.forms (drop at file)) where
        pub doing_less : length file - (at + size) < length file - at
        doing_less = omega (arith, whole_long c.forms file at size stands, whole-inside c.forms file at size stands d.inside)

        module _ (r : Record) (is : r ≡ record_in size (drop at file)) (t : S) (out' : List ℕ) (to' : ℕ) (report' : List ℕ) (told' : ℕ) (takes : Takes c s r out to report told t out' to' report' told') where
          turn : Turns c s (drop at file) at out to report told t (at + size) out' to' report' told'
          turn = turns_whole c s (drop at file) at out to report told (Whole size) stands refl r t (at + size) out' to' report' told' is takes.left refl takes.stores takes.tells

          output-turned : Turned p s (drop at file) at to out t (at + size) out' to'
          output-turned = (turn.left, turn.place, turn.stores)

          report-turned : Turned q s (drop at file) at told report t (at + size) report' told'
          report-turned = (turn.left, turn.place, turn.tells)

          cost : cost_in p s (drop at file) ≡ length (c.text s r) + length (c.report s r)
          cost = rw (← stands, is) refl

          moved : at + size ≡ at → ⊥
          moved e = omega (arith, whole_long c.forms file at size stands)

          out_same : length out' ≡ length out
          out_same = turned-length p file out out' at to (at + size) to' s t output-turned

          pub doing_more : c.longest ≤ length out - (to + told) → Doing s₀ file out₀ report₀ t out' report' (at + size) to' told'
          doing_more room =
              let rest : length out' - (to' + told') ≡ left - cost_in p s (drop at file) = omega (arith, takes.stores.0, takes.tells.0, takes.fits, cost, out_same) in
              record {
                inside = turned-inside p file out out' at to (at + size) to' s t output-turned d.inside;
                room = omega (arith, d.room, takes.stores.0, takes.tells.0, takes.fits, out_same);
                told_inside = takes.inside;
                same_out = out_same ∙ d.same_out;
                same_report = turned-length q file report report' at told (at + size) told' s t report-turned ∙ d.same_report;
                stores = turned_goes p file out out' at to (at + size) to' s t output-turned out₀ f₀ left d.stores room moved (length out' - (to' + told')) rest;
                tells = turned_goes q file report report' at told (at + size) told' s t report-turned report₀ g₀ left d.tells room moved (length out' - (to' + told')) rest;
              }

-- a record of which both texts were put, in a report that has room
module _ {S : Type 0} (c : Channels S) where
  pub takes_both : {s : S} {r : Record} {out : List ℕ} {to : ℕ} {report : List ℕ} {told : ℕ} {t : S} {out' : List ℕ} {to' : ℕ} {report' : List ℕ} {told' : ℕ} → t ≡ c.next s r → Put (c.text s r) out to out' to' → Put (c.report s r) report told report' told' → length (c.text s r) + length (c.report s r) ≤ c.longest → told + c.longest ≤ length report → Takes c s r out to report told t out' to' report' told'
  takes_both {s = s} {r = r} {report = report} {told = told} left stores tells fits room =
      record { left = left; stores = stores; tells = tells; fits = fits; inside = omega (arith, tells.0, ap length tells.1, length-sets report told (c.report s r)) }
