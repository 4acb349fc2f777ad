mod CountedTasks
mod FewNodes
mod JobsOfPool
mod KeptLabels
mod Lacking
mod SampledPool
mod SampleAnswers
mod SamplePuts
pub mod SoundSamples
pub mod MetricValues
