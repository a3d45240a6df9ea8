-- A holder is replaced only beneath a segment.
use Rattle.std.proofs.Common.{◌<◌, ℕ, List, [], Some, None, Result, Ok, Err, length, arith}
use Rattle.std.specs.Prelude.{Option}
use Rattle.ild_path_block.specs.Spliced.{IsBeneath}
use Rattle.ild_path_block.specs.declared.answer.Spliced.{Spliced}
use Rattle.ild_path_block.specs.declared.answer.Spliced.TheVariants as S
use Rattle.ild_splice.specs.declared.error.SpliceErr.{SpliceErr}

-- what is never a holder
pub never_held : (path : List (List ℕ)) (r : Result (Option Spliced) SpliceErr) → IsBeneath [] r → IsBeneath path r
never_held path (Ok None) h = tt
never_held path (Ok (Some (S.Block b))) h = tt
never_held path (Ok (Some (S.Holder r))) h = absurd (omega (arith, h))
never_held path (Err e) h = tt

-- whatever it is, on a path with segments
pub on_path : (path : List (List ℕ)) (r : Result (Option Spliced) SpliceErr) → 0 < length path → IsBeneath path r
on_path path (Ok None) h = tt
on_path path (Ok (Some (S.Block b))) h = tt
on_path path (Ok (Some (S.Holder r))) h = h
on_path path (Err e) h = tt
