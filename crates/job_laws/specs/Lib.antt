pub mod OverJobs
