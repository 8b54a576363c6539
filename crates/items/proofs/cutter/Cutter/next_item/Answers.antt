use Rattle.std.proofs.Common.{◌+◌, ◌≤◌, ◌∷◌, length, ap, ◌∙◌, arith}
use Rattle.std.proofs.lemmas.Grind.{common_steps}
use Rattle.items.specs.Items.{after_item, behind, mark_of, length_of}
use Rattle.items.proofs.Cutting.{no_space, skipped, left_behind}
use Rattle.items.proofs.cutter.Cutter.next_item.Goals as goal

pub front_of-kind-requires : goal.front_of-kind-requires
front_of-kind-requires c = no_space c.args.self.now.line.now c.args.self.now.offset c.min-from.result c.spaces_of.result c.min-from.ensures c.spaces_of.ensures.value

pub returns-clause-first : goal.returns-clause-first
returns-clause-first c =
    let line = c.args.self.now.line.now in
    let at = c.min-from.result + c.spaces_of.result in
    let kind = c.front_of-kind.result in
    let within : at + length_of kind ≤ length line = grind (arith, common_steps) in
    skipped line c.args.self.now.offset c.min-from.result c.spaces_of.result c.min-from.ensures c.spaces_of.ensures.value ∙ c.front_of-kind.ensures.first (at + 1) ∙
    ap (λ its. (at + 1, mark_of kind) ∷ after_item (mark_of kind) its) (left_behind line at (length_of kind) c.length.result c.length.ensures within)

pub returns-clause-on : goal.returns-clause-on
returns-clause-on c =
    let line = c.args.self.now.line.now in
    let at = c.min-from.result + c.spaces_of.result in
    let kind = c.front_of-kind.result in
    let within : at + length_of kind ≤ length line = grind (arith, common_steps) in
    ap behind (skipped line c.args.self.now.offset c.min-from.result c.spaces_of.result c.min-from.ensures c.spaces_of.ensures.value) ∙ c.front_of-kind.ensures.on (at + 1) ∙
    left_behind line at (length_of kind) c.length.result c.length.ensures within
