-- What is known of a parent means.
use Rattle.hwdb_rulerun.specs.Views.{seen_of}
use Rattle.hwdb_ruleevents.specs.Parents
use Rattle.hwdb_ruleevents.specs.declared.parents.Parent.{Parent}
use Rattle.hwdb_ruleevents.specs.declared.parents.Parent.TheVariants as Kinds

abbrev pub chosen_of : Parent → Parents.Chosen
chosen_of Kinds.Anyone = Parents.Anyone
chosen_of Kinds.Nobody = Parents.Nobody
chosen_of (Kinds.One seen) = Parents.One (seen_of seen)
