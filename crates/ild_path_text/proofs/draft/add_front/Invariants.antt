use Rattle.std.proofs.Common.{option_map, string_bytes}
use Rattle.ild_path_text.specs.Left.{parts_left}
use Rattle.ild_path_text.proofs.Drafts.{Fronted}
use Rattle.ild_path_text.proofs.draft.add_front.Given as goal

abbrev pub invariant-loop-i : goal.invariant-loop-i
invariant-loop-i l = Fronted l.delim (parts_left l.delim (option_map (λ t. t.now) l.left)) l.i (string_bytes l.out) (parts_left l.delim (option_map (λ t. t.now) l.rest))
