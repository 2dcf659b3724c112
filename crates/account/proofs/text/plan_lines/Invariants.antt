-- After the first line the text has the lines of the links before `link-index`.
use Rattle.std.proofs.Common.{◌≡◌, ◌++◌, take, string_bytes}
use Rattle.std.specs.List.{flat_map}
use Rattle.account.specs.Lines.{link_line}
use Rattle.account.proofs.text.plan_lines.Given as goal

abbrev pub invariant-loop-link : goal.invariant-loop-link
invariant-loop-link g l = string_bytes l.text ≡ string_bytes l.initial.text ++ flat_map (link_line g.K.Cost.kind) (take l.link-index l.links)
