-- A store beneath a batch, where the batch is later.
use Rattle.std.proofs.Common.{ℕ, zero, suc, List, arith}
use Rattle.std.specs.List.{slice_get}
use Rattle.ild_edges.proofs.Reading.{kept_same, given_same}
use Rattle.ild_dirty.specs.Batch.{batch_moment}
use Rattle.ild_edges.specs.Store.{Moment, StaysBelow, asked_over, Later}
use Rattle.ild_edges.specs.Told.{BothTold}
use Rattle.ild_script_batch.specs.Inside.{LaterBeneath}

-- what is beneath the store is beneath the batch, one further on
deeper : (m n : Moment) (was now : List (List ℕ)) (g h p q : ℕ) (x y : ℕ × ℕ) → Later (batch_moment m was g p x) (batch_moment n now h q y)
    → (i : ℕ) → BothTold (slice_get m.beneath i) (slice_get n.beneath i) (StaysBelow (asked_over m i) (asked_over n i))
deeper m n was now g h p q x y later zero = later.beneath (suc zero)
deeper m n was now g h p q x y later (suc i) = later.beneath (suc (suc i))

pub later_beneath : LaterBeneath
later_beneath = λ m n was now g h p q x y later.
    let first = later.beneath zero in record {
      names = first.names;
      later = record {
        keeps = kept_same m.blocks n.blocks first.blocks;
        given = given_same m.given n.given first.given;
        gets = first.more;
        puts = let same = first.puts in omega (arith, same);
        lacks = later.lacks;
        faults = later.faults;
        beneath = deeper m n was now g h p q x y later;
      };
      blocks = first.blocks;
      puts = first.puts;
    }
