-- What comes of an element in which a text is missing: this project's table, after NumPy's reference for missing objects in StringDType.
use Rattle.sa_descr.specs.declared.descr.NaRule.{NaRule}
use Rattle.sa_descr.specs.declared.descr.NaRule.TheVariants.{Absent, Nan, Other, Txt}
use Rattle.sa_descr.specs.declared.missing.MissGroup.{MissGroup}
use Rattle.sa_descr.specs.declared.missing.MissGroup.TheVariants.{Makes, Orders, Differs, Tests, Searches, Truth, Leaves}
use Rattle.sa_descr.specs.declared.missing.Miss.{Miss}
use Rattle.sa_descr.specs.declared.missing.Miss.TheVariants.{Gone, AsText, No, Yes, Refuse}

-- the column of the rule Nan
abbrev pub nan_miss : MissGroup → Miss
nan_miss Makes = Gone
nan_miss Orders = No
nan_miss Differs = Yes
nan_miss Tests = No
nan_miss Searches = Refuse
nan_miss Truth = Yes
nan_miss Leaves = Refuse

abbrev pub miss_of : MissGroup → NaRule → Miss
miss_of group Absent = Refuse
miss_of group Nan = nan_miss group
miss_of group Other = Refuse
miss_of group (Txt text) = AsText
