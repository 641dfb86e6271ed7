-- What a COMPOUND was answered, as it is kept while its operations are done.
use Rattle.xl_front_nfs.specs.Steps.{Course}
use Rattle.xl_front_nfs.specs.declared.compound.Progress.{Progress}

abbrev pub course_of : Progress → Course
course_of p = record { current = p.current; results = p.results; count = p.count; status = p.status }
