-- The answer to a chunk that the checks passed. Assumes nothing.
use mathlib.Core.Path.{◌≡◌, ap, ◌∙◌}
use mathlib.Core.List.{List, ◌++◌}
use Prim.Native.Nat.{ℕ, ◌+◌, ◌≤◌}
use native.Mathlib.Nat.{zero-add}
use native.Mathlib.Omega.{arith}
use lib.ListN.{length, drop}
use lib.Seq.{sets, sets-eq}
use Rattle.std.proofs.Common.{Ok}
use Rattle.meaning.specs.declared.Kind.{Kind}
use Rattle.meaning.specs.Sizes.{longest_listing}
use Rattle.meaning.specs.Listing.{listing}
use Rattle.meaning.specs.Reading.{list_in, checks, kind_in, minor_in, ReadSays, listed}
use Rattle.meaning.proofs.Lengths.{listing-fits}
use Rattle.meaning.proofs.Answers.{says_listed}

pub read-stored : (xs before after : List ℕ) (k : Kind) (n : ℕ) → longest_listing ≤ length before → checks xs ≡ Ok tt → k ≡ kind_in xs → n ≡ length (listing (list_in xs)) → after ≡ sets before 0 (listing (list_in xs)) → ReadSays xs before (Ok (listed k (minor_in xs) n)) after
read-stored xs before after k n room fine kind length-is stored =
    let l : List ℕ = listing (list_in xs) in
    let fits : 0 + length l ≤ length before = omega (arith, listing-fits xs fine) in
    let says = says_listed xs before room fine in
    record {
      answers = (λ i. Ok (listed (kind i) (minor_in xs) (length-is i))) ∙ says.answers;
      leaves = stored ∙ sets-eq l before 0 fits ∙ ap (λ (m : ℕ). l ++ drop m before) (zero-add (length l)) ∙ says.leaves;
    }
