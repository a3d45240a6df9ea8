use Rattle.std.proofs.Common.{◌≡◌, ◌+◌, ◌-◌, ◌*◌}
use Rattle.std.specs.Prelude.{None, option_map}
use Rattle.ild_cbor.specs.Reading.{items_at, members_at, part_at, rest_of}
use Rattle.ild_cbor.proofs.item.+walk.Given as goal

abbrev pub decreases-item : goal.decreases-item
decreases-item l = 3 * l.room + 2

abbrev pub decreases-body : goal.decreases-body
decreases-body l = 3 * l.room + 1

abbrev pub decreases-items : goal.decreases-items
decreases-items l = 3 * l.room

abbrev pub decreases-members : goal.decreases-members
decreases-members l = 3 * l.room

-- what is left to read gives what all would
abbrev pub invariant-items-loop : goal.invariant-items-loop
invariant-items-loop l = rest_of (items_at (part_at l.room) (l.n - l.counter) l.rest) ≡ rest_of (items_at (part_at l.room) l.n l.fn.bytes)

abbrev pub invariant-members-loop : goal.invariant-members-loop
invariant-members-loop l =
    rest_of (members_at (part_at l.room) (option_map (λ k. k.now) l.before) (l.n - l.counter) l.rest) ≡ rest_of (members_at (part_at l.room) None l.n l.fn.bytes)
