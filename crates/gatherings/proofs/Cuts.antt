-- The segments that a chunk is cut into are its pieces; with its stuffing it carries the same list. Assumes nothing.
use mathlib.Core.Path.{ap, ◌∙◌}
use mathlib.Core.List.{List, ◌++◌}
use Prim.Native.Nat.{ℕ, ◌<◌}
use native.Mathlib.Omega.{arith}
use lib.ListN.{length}
use Rattle.meaning.specs.declared.Kind.{Kind}
use Rattle.meaning.specs.Lists.{FicList}
use Rattle.meaning.specs.Layout.{Carries}
use Rattle.meaning.proofs.Checks.{header-passes}
use Rattle.meaning.proofs.Complete.{carried-accepted}
use Rattle.meaning.proofs.Plain.{bytes-carried, stuffed_carried}
use Rattle.segments.specs.Cut.{segment_count, Choice, Suits, piece_of}
use Rattle.segments.proofs.Cut.{piece-read, piece-passes}
use Rattle.gatherings.proofs.Pieces.{Piece}

module _ {ys : List ℕ} {k : Kind} {m : ℕ} {l : FicList} {c : Choice} (h : Carries ys k m l) (suits : Suits ys c) where
  pub cut-carried : Carries (ys ++ c.fill) k m l
  cut-carried = stuffed_carried h c.fill suits.bytes (omega (arith, suits.whole, h.allowed.room, ap length h.bytes))

  pub cut-piece : (i : ℕ) → i < segment_count (length ys) → Piece (segment_count (length ys)) (ys ++ c.fill) k i (piece_of ys c i)
  cut-piece i inside =
      let a = carried-accepted h in
      let p = (header-passes ys a.passes).0 in
      let r = piece-read ys c (bytes-carried h) suits p.longest i inside in
      record {
        passes = piece-passes ys c (bytes-carried h) suits p.longest i inside p.major;
        kind = r.4 ∙ a.kind;
        number = r.5;
        last = omega (arith, r.6);
        payload = r.7;
      }
