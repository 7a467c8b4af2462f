-- Lemmas of this room: the clusters that are in, and which of them leave.
pub mod FewestLeave
pub mod DistinctQueues
pub mod ValidClusters
pub mod ClusterPages
pub mod FourLargest
pub mod QueuesFit
pub mod SizesAddUp
