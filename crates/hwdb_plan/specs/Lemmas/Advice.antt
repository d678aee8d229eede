-- A plan with a line on what to try next ends as the plan does, but for the line.
use Rattle.std.proofs.Common.{inl, inr, ap, refl, None, Some}
use Rattle.hwdb_plan.specs.Advice.{AdvisedIsNoMore, AdvisedIsSaid, advised, with_advice}
use Rattle.hwdb_plan.specs.Plans.{Ends}
use Rattle.hwdb_plan.specs.Plans.End.{Stops}
use Rattle.hwdb_plan.specs.Plans.Plan.{Compile, Database, Decode, Done, Folder, Ignored, Input, Inspect, Names, Spell, Text}

pub advised_is_said : AdvisedIsSaid
unfolding Ends advised
advised_is_said line w (Done x) e ends = ap (with_advice line) ends
advised_is_said line w (Input path next) e ends = advised_is_said line w (next (w.input path)) e ends
advised_is_said line w (Text path next) e ends = advised_is_said line w (next (w.text path)) e ends
advised_is_said line w (Database path next) e ends = advised_is_said line w (next (w.database path)) e ends
advised_is_said line w (Names folder next) e ends = advised_is_said line w (next (w.names folder)) e ends
advised_is_said line w (Folder path next) e ends = advised_is_said line w (next (w.folder path)) e ends
advised_is_said line w (Ignored folder next) e ends = advised_is_said line w (next (w.ignored folder)) e ends
advised_is_said line w (Spell at next) e (inl (p, is, ends)) = inl (p, is, advised_is_said line w (next (Some p)) e ends)
advised_is_said line w (Spell at next) e (inr (none, ends)) = inr (none, advised_is_said line w (next None) e ends)
advised_is_said line w (Inspect bytes next) e (inl (t, is, ends)) = inl (t, is, advised_is_said line w (next (Some t)) e ends)
advised_is_said line w (Inspect bytes next) e (inr (none, ends)) = inr (none, advised_is_said line w (next None) e ends)
advised_is_said line w (Decode bytes bad next) e (inl (t, is, ends)) = inl (t, is, advised_is_said line w (next t) e ends)
advised_is_said line w (Decode bytes bad next) e (inr (f, has, is)) = inr (f, has, ap (with_advice line) is)
advised_is_said line w (Compile etc usr most bad next) e (inl (b, is, ends)) = inl (b, is, advised_is_said line w (next b) e ends)
advised_is_said line w (Compile etc usr most bad next) e (inr (x, has, is)) = inr (x, has, ap (with_advice line) is)

pub advised_is_no_more : AdvisedIsNoMore
unfolding Ends advised
advised_is_no_more line w (Done x) e ends = (x, refl, ends)
advised_is_no_more line w (Input path next) e ends = advised_is_no_more line w (next (w.input path)) e ends
advised_is_no_more line w (Text path next) e ends = advised_is_no_more line w (next (w.text path)) e ends
advised_is_no_more line w (Database path next) e ends = advised_is_no_more line w (next (w.database path)) e ends
advised_is_no_more line w (Names folder next) e ends = advised_is_no_more line w (next (w.names folder)) e ends
advised_is_no_more line w (Folder path next) e ends = advised_is_no_more line w (next (w.folder path)) e ends
advised_is_no_more line w (Ignored folder next) e ends = advised_is_no_more line w (next (w.ignored folder)) e ends
advised_is_no_more line w (Spell at next) e (inl (p, is, ends)) = let below = advised_is_no_more line w (next (Some p)) e ends in (below.0, inl (p, is, below.1), below.2)
advised_is_no_more line w (Spell at next) e (inr (none, ends)) = let below = advised_is_no_more line w (next None) e ends in (below.0, inr (none, below.1), below.2)
advised_is_no_more line w (Inspect bytes next) e (inl (t, is, ends)) = let below = advised_is_no_more line w (next (Some t)) e ends in (below.0, inl (t, is, below.1), below.2)
advised_is_no_more line w (Inspect bytes next) e (inr (none, ends)) = let below = advised_is_no_more line w (next None) e ends in (below.0, inr (none, below.1), below.2)
advised_is_no_more line w (Decode bytes bad next) e (inl (t, is, ends)) = let below = advised_is_no_more line w (next t) e ends in (below.0, inl (t, is, below.1), below.2)
advised_is_no_more line w (Decode bytes bad next) e (inr (f, has, is)) = (Stops (bad f), inr (f, has, refl), is)
advised_is_no_more line w (Compile etc usr most bad next) e (inl (b, is, ends)) = let below = advised_is_no_more line w (next b) e ends in (below.0, inl (b, is, below.1), below.2)
advised_is_no_more line w (Compile etc usr most bad next) e (inr (x, has, is)) = (Stops (bad x), inr (x, has, refl), is)
