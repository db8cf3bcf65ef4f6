-- A program on two channels: a turn on both, and the end of a run. Assumes nothing.
use mathlib.Core.Path.{◌≡◌, refl, subst, ◌∙◌}
use mathlib.Core.Bool.{true, false}
use mathlib.Core.List.{List}
use Prim.Native.Nat.{ℕ, ◌+◌, ◌≤◌}
use lib.ListN.{length, take}
use Rattle.records.specs.declared.Entry.{Entry}
use Rattle.records.specs.Records.{Record, entry_in, is_whole, last_line}
use Rattle.records.specs.Transcripts.{Program, filled}
use Rattle.records.specs.Channels.{Channels, output_of, report_of}
use Rattle.records.specs.Channels.{Fills as Filled}
use Rattle.records.proofs.Transcripts.{filled_alike}
use Rattle.programs.specs.Programs.{alone, PutsLast}
use Rattle.programs.proofs.Alone.{output_alone}
use Rattle.std.specs.Prelude.{Result}
use Rattle.manners.specs.declared.Unsent.{Unsent}
use Rattle.manners.specs.declared.Ending.{Ending}
use Rattle.manners.specs.declared.Ending.TheVariants.{Over, Spent}
use Rattle.manners.specs.declared.Ending.TheVariants.{Unheard as EndUnheard, NotRead as EndNotRead, NotWritten as EndNotWritten}
use Rattle.blocks.specs.declared.Step.{Step}
use Rattle.blocks.specs.declared.Step.TheVariants.{Next}
use Rattle.blocks.specs.declared.Unread.{Unread}
use Rattle.blocks.specs.Blocks.{most_turns, unread, Proceeds, TurnSays, Concludes, Settles, Ends}
use Rattle.blocks.specs.Channels.{BothSay, LastSaid, RunSays}
use Rattle.blocks.proofs.Laws.{unread-length, no_more, Fills, put_front, filled_before, turn_says, Keeps, turn_keeps, settles, concluded}

module _ {S : Type 0} (c : Channels S) where
  -- ---- a turn: the unread part of a block was filled

  module _ (s : S) (old : List ℕ) (at have : ℕ) (out report : List ℕ) (t : S) (read : ℕ) (out' : List ℕ) (wrote : ℕ) (report' : List ℕ) (told : ℕ) (says : Filled c s (unread old at have) out report t read out' wrote report' told) where
    abbrev xs : List ℕ
    xs = unread old at have

    -- on either channel
    output : Fills (output_of c) (length out) s xs out t read out' wrote
    output = (says.left, says.place, says.stores)

    lines : Fills (report_of c) (length out) s xs report t read report' told
    lines =
        let same = filled_alike (output_of c) (report_of c) refl refl refl refl (length out) s xs in
        (says.left ∙ same.0, says.place ∙ same.1, says.tells)

    pub read-inside : at ≤ have → have ≤ length old → at + read ≤ have
    read-inside ahead inside =
        filled_before (output_of c) (length out) s t xs out out' read wrote output at have (unread-length old at have ahead inside) ahead

    pub both_say : (e : Entry) → e ≡ entry_in c.forms (unread old (at + read) have) → (sent : Result (Unit {0}) Unsent) (new : List ℕ) (u : Unread) → Proceeds sent e old at (at + read) have new u → BothSay c s old at have out report t new out' wrote report' told u
    both_say e stands sent new u g =
        record {
          output = turn_says (output_of c) (length out) s t xs out out' read wrote output old at have new u e stands sent g;
          lines = turn_says (report_of c) (length out) s t xs report report' read told lines old at have new u e stands sent g;
        }

  -- a turn leaves the unread part inside the block, and where no more comes no whole record stands
  pub both_keep : {s : S} {old : List ℕ} {at have : ℕ} {out report : List ℕ} {t : S} {new out' : List ℕ} {wrote : ℕ} {report' : List ℕ} {told : ℕ} {u : Unread} → BothSay c s old at have out report t new out' wrote report' told u → at ≤ have → have ≤ length old → Keeps (λ (t : S). Unit {0}) c.forms t new u
  both_keep {s = s} {old = old} {at = at} {have = have} {out = out} {t = t} {new = new} {out' = out'} {wrote = wrote} {u = u} says ahead inside =
      turn_keeps (output_of c) (λ t. Unit {0}) (λ t r y. tt) (length out) s old at have out t new out' wrote u says.output tt ahead inside

  -- ---- a run, ended at a step

  pub last_said : (s : S) (e : Entry) (out report out' : List ℕ) (to : ℕ) (report' : List ℕ) (told : ℕ) → PutsLast c s e out report out' to report' told → LastSaid c s e out' report'
  last_said s e out report out' to report' told puts =
      record {
        output = put_front (c.last s e) out out' to puts.stores puts.output-fits;
        lines = put_front (c.last_report s e) report report' told puts.tells puts.report-fits;
      }

  pub run_says : (step : Step) (r : Ending) (turns turns' : ℕ) (block : List ℕ) (at at' have have' : ℕ) (out report : List ℕ) (s : S) → Concludes step (entry_in c.forms (unread block at have)) r × LastSaid c s (entry_in c.forms (unread block at have)) out report × (turns' ≡ turns) × (at' ≡ at) × (have' ≡ have) → (no_more step ≡ true → is_whole (entry_in c.forms (unread block at have)) ≡ false) → (step ≡ Next → turns ≡ most_turns) → RunSays c r turns' (entry_in c.forms (unread block at' have')) out report
  run_says step r turns turns' block at at' have have' out report s g over spent =
      rw (g.2, g.3, g.4)
      (record { state = s; ended = concluded step (entry_in c.forms (unread block at have)) turns r g.0 over spent; last = g.1 })

-- ---- a program that reports nothing: what one channel says

module _ {S : Type 0} (p : Program S) where
  -- a turn, where a record takes the room of its text and no more
  module _ (exact : (s : S) (r : Record) → p.cost s r ≡ length (p.text s r)) where
    pub turn_alone : {s : S} {old : List ℕ} {at have : ℕ} {out report : List ℕ} {t : S} {new out' : List ℕ} {wrote : ℕ} {report' : List ℕ} {told : ℕ} {u : Unread} → BothSay (alone p) s old at have out report t new out' wrote report' told u → TurnSays p.forms (filled p (length out) s (unread old at have)) old at have out t new out' wrote u
    turn_alone {s = s} {old = old} {at = at} {have = have} {out = out} {t = t} {new = new} {out' = out'} {wrote = wrote} {u = u} says =
        subst (λ (q : Program S). TurnSays p.forms (filled q (length out) s (unread old at have)) old at have out t new out' wrote u) (output_alone p exact) says.output

  -- the end of a run, where the last line is put last
  module _ (last : (s : S) (e : Entry) → p.last s e ≡ last_line e) where
    line_said : (s : S) (e : Entry) (out report : List ℕ) → LastSaid (alone p) s e out report → take (length (last_line e)) out ≡ last_line e
    line_said s e out report said = subst (λ (l : List ℕ). take (length l) out ≡ l) (last s e) said.output

    pub step_settles : (step : Step) (s : S) (e : Entry) (out report : List ℕ) (r : Ending) → Concludes step e r → LastSaid (alone p) s e out report → Settles step e out r
    step_settles step s e out report r concludes said = settles step e out r concludes (line_said s e out report said)

    pub run_ends : (r : Ending) (turns : ℕ) (e : Entry) (out report : List ℕ) → RunSays (alone p) r turns e out report → Ends r turns e out
    run_ends (Over n) turns e out report g = (g.ended.0, g.ended.1, line_said g.state e out report g.last)
    run_ends EndNotRead turns e out report g = g.ended
    run_ends EndUnheard turns e out report g = tt
    run_ends EndNotWritten turns e out report g = tt
    run_ends Spent turns e out report g = g.ended
