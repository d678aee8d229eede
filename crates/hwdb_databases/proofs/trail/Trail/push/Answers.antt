use Rattle.std.proofs.Common.{◌≡◌, ◌∙◌, ◌++◌, ◌∷◌, [], ap, arith, length}
use Rattle.hwdb_databases.specs.Internal.Trails.{byte_in}
use Rattle.hwdb_databases.specs.declared.trail.Segment.{Segment}
use Rattle.hwdb_databases.proofs.TrailLemmas.{push_follows}
use Rattle.hwdb_databases.proofs.trail.Trail.push.Goals as goal

-- the segment that was added
abbrev last : (c : goal.In_ok-push) → Segment
last c = record { byte = c.args.byte; prefix = c.stored_prefix-prefix.result; from = c.len-from.result }

grown : (c : goal.In_ok-push) → c.push.new.self.items ≡ c.args.self.now.segments.items ++ last c ∷ []
grown c = c.in_ok-push.ensures.items ∙ ap (λ l. l.items ++ last c ∷ []) c.copy.ensures.segments

pub returns-clause-longer : goal.returns-clause-longer
returns-clause-longer c = record {
  last = last c;
  grown = grown c;
  bytes = ap (λ p. byte_in c.args.byte ++ p) c.stored_prefix-prefix.ensures.text;
}

pub returns-clause-follows : goal.returns-clause-follows
returns-clause-follows c =
    let read = c.len-from.ensures in
    let ok = c.args.self.now.path.ok in
    let from : c.len-from.result ≡ length c.args.self.now.path.items = omega (arith, read, ok) in
    push_follows c.args.self.now _ (last c) (grown c) c.copy.ensures.kept c.copy.ensures.copies c.in_ok-copy.ensures.path from
