-- Viewers whose threads were started.
use Rattle.report.specs.Watching.{Watch, watch_from}
use Rattle.report.specs.declared.audience.Started.{Started}

-- what is known of a viewer whose thread was started
abbrev pub watch_of : {H : Type 0} → Started H → Watch
watch_of s = watch_from s.handle.promise.number s.handle.promise.viewer.value s.handle.promise.question.value s.handle.promise.count
