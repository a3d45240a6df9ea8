use Rattle.std.proofs.Common.{Bor, List, ℕ, option_map, string_bytes, arith}
use Rattle.ild_path_text.specs.Left.{parts_left}
use Rattle.ild_path_text.proofs.Drafts.{fronted_goes, fronted_stops}
use Rattle.ild_path_text.proofs.draft.add_front.Goals as goal

pub returns-in_default-clause-front : goal.returns-in_default-clause-front
returns-in_default-clause-front c =
    let d = c.args.delim.now in
    (fronted_stops d (parts_left d (option_map {T = Bor (List ℕ)} {U = List ℕ} (λ t. t.now) c.args.left)) c.loop-i.i c.args.place (string_bytes c.loop-i.out) (omega (arith, c.loop-i-test.true)) (rw c.in_default.is at c.loop-i.invariant)).0

pub returns-in_default-clause-back : goal.returns-in_default-clause-back
returns-in_default-clause-back c =
    let d = c.args.delim.now in
    (fronted_stops d (parts_left d (option_map {T = Bor (List ℕ)} {U = List ℕ} (λ t. t.now) c.args.left)) c.loop-i.i c.args.place (string_bytes c.loop-i.out) (omega (arith, c.loop-i-test.true)) (rw c.in_default.is at c.loop-i.invariant)).1

pub loop-i-preserved : goal.loop-i-preserved
loop-i-preserved c =
    let d = c.args.delim.now in
    fronted_goes d (parts_left d (option_map {T = Bor (List ℕ)} {U = List ℕ} (λ t. t.now) c.args.left)) c.loop-i.i (string_bytes c.loop-i.out) _ c.first.result.0.now _ _ c.first.ensures c.in_ok-add_part.ensures (rw c.in-Some.is at c.loop-i.invariant)
